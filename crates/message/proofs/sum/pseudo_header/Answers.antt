use Rattle.std.proofs.Common.{◌≡◌, ◌/◌, ◌%◌, arith, refl}
use Rattle.message.proofs.sum.pseudo_header.Goals as goal

pub returns : goal.returns
returns c =
    let n = c.args.n in
    let high : n % 65536 / 256 % 256 ≡ n / 256 % 256 = omega arith in
    let low : n % 65536 % 256 ≡ n % 256 = omega arith in
    rw (c.split4.ensures, c.split4-2.ensures, c.split2.ensures, high, low) refl
