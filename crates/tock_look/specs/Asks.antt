-- The commands, as words of the command line. They are this tool's own.
use Rattle.std.specs.Prelude.{ℕ, Bool, true, false, ◌==◌, ◌&&◌, nat_le, nat_lt, if◌then◌else◌}
use Rattle.std.specs.Prelude.{List, [], ◌∷◌, ◌++◌, length, map, take, drop}
use Rattle.std.specs.Prelude.{codes, unwrap_or}
use Rattle.std.specs.Prelude.{String, string_bytes, Vec, Option, None, Some}
use Rattle.std.specs.Option.{option_map, option_map_or, option_and_then}
use Rattle.std.specs.List.{slice_split}
use Rattle.std.specs.Str.{bytes_eq}
use Rattle.decimal_number.specs.Number.{number_up_to}
use Rattle.tock_look.specs.declared.asks.Ask.{Ask}
use Rattle.board_views.specs.declared.goal.Goal.{Goal}
use Rattle.board_views.specs.declared.goal.Watched.{Watched}
use Rattle.board_views.specs.declared.times.Reach.{Reach}
use Rattle.board_views.specs.declared.goal.TheConstants.{GOAL_ADDRESSES, GOAL_PLACES}
use Rattle.tock_look.specs.declared.asks.Ask.TheVariants.{Boot, State, At, Steps, Trace, Memory, Storage, To, Turns}
use Rattle.tock_look.specs.declared.asks.Ask.TheVariants.{Until, Last, Add, Keep, Return, Unknown}
use Rattle.tock_look.specs.declared.asks.Limits.{Limits}
use Rattle.tock_look.specs.declared.asks.Numbers.{Numbers}
use Rattle.tock_look.specs.declared.asks.Numbers.TheVariants as numbers
use Rattle.tock_look.specs.declared.asks.Places.{Places}
use Rattle.tock_look.specs.declared.asks.TheConstants.{LAST_PLACE, LAST_SLOT, LINE_LIMIT, MOST_NUMBER}

-- the slot that a word names, and the number of steps that one gives
abbrev pub slot_of : List ℕ → Option ℕ
slot_of word = number_up_to LAST_SLOT word

abbrev pub most_of : List ℕ → Option ℕ
most_of word = number_up_to MOST_NUMBER word

-- `boot`, `state`
abbrev pub plain_ask : List ℕ → Option Ask
plain_ask name =
    if bytes_eq name (codes "boot") then Some Boot
    else (if bytes_eq name (codes "state") then Some State else None)

-- the place at which a board is kept that a word names
abbrev pub place_of : List ℕ → Option ℕ
place_of word = number_up_to LAST_PLACE word

-- `at S`, `keep K`, `return K`
unfoldable pub placed_ask : List ℕ → List ℕ → Option Ask
placed_ask name number =
    if bytes_eq name (codes "at") then option_map At (slot_of number)
    else (if bytes_eq name (codes "keep") then option_map Keep (place_of number)
    else (if bytes_eq name (codes "return") then option_map Return (place_of number) else None))

-- whether the lines of steps are to be written, by the name of the command
abbrev pub is_traced : List ℕ → Option Bool
is_traced name =
    if bytes_eq name (codes "steps") then Some false
    else (if bytes_eq name (codes "trace") then Some true else None)

abbrev pub stepping : Bool → ℕ → ℕ → Ask
stepping traced slot most = if traced then Trace slot most else Steps slot most

-- `steps S MOST`, `trace S MOST`
unfoldable pub numbered_ask : List ℕ → List ℕ → List ℕ → Option Ask
numbered_ask name slot number =
    option_and_then (λ traced. option_and_then (λ s. option_map (stepping traced s) (most_of number)) (slot_of slot))
    (is_traced name)

-- what the two numbers are for of a command
abbrev pub numbers_for : List ℕ → Option Numbers
numbers_for name =
    if bytes_eq name (codes "memory") then Some numbers.Memory
    else (if bytes_eq name (codes "storage") then Some numbers.Storage
    else (if bytes_eq name (codes "to") then Some numbers.To
    else (if bytes_eq name (codes "told") then Some numbers.Told
    else (if bytes_eq name (codes "turns") then Some numbers.Turns else None))))

-- the command that goes on to a time
abbrev pub reaching : ℕ → ℕ → ℕ → Bool → Ask
reaching slot time most told = To slot (record { time = time; most = most; told = told })

abbrev pub with_two : Numbers → ℕ → ℕ → ℕ → Ask
with_two numbers.Memory slot first second = Memory slot first second
with_two numbers.Storage slot first second = Storage slot first second
with_two numbers.To slot first second = reaching slot first second false
with_two numbers.Told slot first second = reaching slot first second true
with_two numbers.Turns slot first second = Turns slot first second

-- `memory S AT COUNT`, `storage S AT COUNT`, `to S T MOST`, `told S T MOST`, `turns S K MOST`
unfoldable pub two_numbers_ask : List ℕ → List ℕ → List ℕ → List ℕ → Option Ask
two_numbers_ask name slot first second =
    option_and_then (λ two. option_and_then (λ s. option_and_then (λ a. option_map (with_two two s a)
    (most_of second)) (most_of first)) (slot_of slot)) (numbers_for name)

-- the numbers that words give, behind others; none where one gives none, or there are more than a goal may
-- have addresses
abbrev pub numbers_after : List ℕ → List (List ℕ) → Option (List ℕ)
numbers_after ns [] = Some ns
numbers_after ns (word ∷ words) =
    option_and_then (λ n. if nat_lt (length ns) GOAL_ADDRESSES then numbers_after (ns ++ n ∷ []) words else None)
    (most_of word)

-- those of a word, which stand between commas; `-` has none
unfoldable pub numbers_between : List ℕ → Option (List ℕ)
numbers_between word =
    if bytes_eq word (codes "-") then Some [] else numbers_after [] (slice_split (λ b. b == 44) word)

-- The watched places that numbers give, behind others: each has three numbers, and fewer at the end are none. None
-- where there are more places than a goal can have.
abbrev pub watched_after : List Watched → List ℕ → Option (List Watched)
watched_after ps (slot ∷ at ∷ count ∷ ns) =
    if nat_lt (length ps) GOAL_PLACES
    then watched_after (ps ++ (record { slot = slot; at = at; count = count }) ∷ []) ns else None
watched_after ps other = Some ps

-- those of a word
abbrev pub watched_of : List ℕ → Option (List Watched)
watched_of word = option_and_then (watched_after []) (numbers_between word)

-- how many steps are made at most, and an area of addresses, which may be left out
abbrev pub limits_of : List ℕ → Option Limits
limits_of (most ∷ []) = Some (record { most = most; low = 0; high = 0 })
limits_of (most ∷ low ∷ high ∷ []) = Some (record { most = most; low = low; high = high })
limits_of other = None

abbrev pub limits_in : List ℕ → Option Limits
limits_in word = option_and_then limits_of (numbers_between word)

-- the limits, watched places and addresses of three words
abbrev pub places : Limits → List Watched → List ℕ → Places
places limits watched addresses =
    record { limits = limits; watched = record { items = watched }; addresses = record { items = addresses } }

abbrev pub places_of : List ℕ → List ℕ → List ℕ → Option Places
places_of limits watched addresses =
    option_and_then
    (λ l. option_and_then (λ ws. option_map (places l ws) (numbers_between addresses)) (watched_of watched))
    (limits_in limits)

-- the goal of a slot
abbrev pub goal_of : ℕ → Places → Goal
goal_of slot p =
    record { slot = slot; low = p.limits.low; high = p.limits.high; watched = p.watched; addresses = p.addresses }

-- whether the last place of a way is asked for
abbrev pub is_last : List ℕ → Option Bool
is_last name =
    if bytes_eq name (codes "until") then Some false
    else (if bytes_eq name (codes "last") then Some true else None)

abbrev pub searching : Bool → ℕ → Places → Ask
searching last slot p = if last then Last p.limits.most (goal_of slot p) else Until p.limits.most (goal_of slot p)

-- `until S MOST WATCHED ADDRESSES`, `last S MOST WATCHED ADDRESSES`, where for MOST may stand MOST,LOW,HIGH
abbrev pub search_ask : List ℕ → List ℕ → Places → Option Ask
search_ask name slot p = option_and_then (λ last. option_map (λ s. searching last s p) (slot_of slot)) (is_last name)

-- the command of some words
abbrev pub asked : List (List ℕ) → Option Ask
asked (name ∷ []) = plain_ask name
asked (name ∷ number ∷ []) = placed_ask name number
asked (name ∷ slot ∷ number ∷ []) = numbered_ask name slot number
asked (name ∷ slot ∷ first ∷ second ∷ []) = two_numbers_ask name slot first second
asked (name ∷ slot ∷ limits ∷ watched ∷ addresses ∷ []) =
    option_and_then (search_ask name slot) (places_of limits watched addresses)
asked other = None

-- `add LINE`: the line
abbrev pub added_of : List ℕ → Option (List ℕ)
added_of word = if nat_le 4 (length word) && bytes_eq (take 4 word) (codes "add ") then Some (drop 4 word) else None

-- the command that adds a line, which is not too long
abbrev pub adding : List ℕ → Option Ask
adding line = if nat_le (length line) LINE_LIMIT then Some (Add (record { items = line })) else None

-- the command of a word: it adds a line, or its own words stand between blanks
unfoldable pub ask_of : List ℕ → Option Ask
ask_of word = option_map_or adding (added_of word) (asked (slice_split (λ b. b == 32) word))

-- that of a line, which may be none
abbrev pub line_ask : List ℕ → Ask
line_ask line = unwrap_or (ask_of line) Unknown

-- the commands of words; none where one of them is no command
abbrev pub all_asks : List (List ℕ) → Option (List Ask)
all_asks [] = Some []
all_asks (word ∷ words) = option_and_then (λ ask. option_map (λ asks. ask ∷ asks) (all_asks words)) (ask_of word)

abbrev pub asks_of : {Z : Type 0} → List (String Z) → Option (List Ask)
asks_of words = all_asks (map string_bytes words)

abbrev pub looking_shown : {Z : Type 0} → Option (Vec Ask Z) → Option (List Ask)
looking_shown asks = option_map (λ v. v.items) asks

-- what the program is to do: the two files, and the commands
pub record Looking : Type 0 where
  pub flash : List ℕ
  pub script : List ℕ
  pub asks : List Ask

abbrev pub looking : List ℕ → List ℕ → List Ask → Looking
looking flash script asks = record { flash = flash; script = script; asks = asks }

-- by the words of the command line, of which the first is the program's name
abbrev pub looking_in : List (List ℕ) → Option Looking
looking_in (program ∷ flash ∷ script ∷ commands) =
    option_map (looking flash script) (all_asks commands)
looking_in words = None

abbrev pub looking_of : {Z : Type 0} → List (String Z) → Option Looking
looking_of words = looking_in (map string_bytes words)
