use Rattle.std.proofs.Common.{◌≡◌}
use Rattle.tk_outside.specs.Text.{hex_digits}
use Rattle.tk_outside.proofs.PutLemmas.{hex_digits_back}
use Rattle.tk_outside.proofs.put.put_hex.Goals as goal

pub returns : goal.returns
returns g c =
    let e = hex_digits_back c.args.digits c.args.n c.requires.at_most_eight in
    let back : c.split_at.result.1.now ≡ hex_digits c.args.digits c.args.n = cc in
    rw back at c.put_all.ensures
