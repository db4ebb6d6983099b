-- The words of an operator's verbs. `list`, `stop`, `start` and `terminate` are those of Tock's process console;
-- `restart` is this board's own.
use Rattle.std.specs.Prelude.{ℕ, List, [], ◌∷◌, find, codes, Option}
use Rattle.std.specs.Str.{bytes_eq}
use Rattle.tk_base.specs.declared.process.Verb.{Verb}
use Rattle.tk_base.specs.declared.process.Verb.TheVariants as verbs

-- the word of a verb
abbrev pub verb_text : Verb → List ℕ
verb_text verbs.List = codes "list"
verb_text verbs.Stop = codes "stop"
verb_text verbs.Start = codes "start"
verb_text verbs.Terminate = codes "terminate"
verb_text verbs.Restart = codes "restart"

-- the verb that a word is, if it is one
unfoldable pub verb_of : List ℕ → Option Verb
verb_of w =
    let all = verbs.List ∷ verbs.Stop ∷ verbs.Start ∷ verbs.Terminate ∷ verbs.Restart ∷ [] in
    find (λ verb. bytes_eq w (verb_text verb)) all
