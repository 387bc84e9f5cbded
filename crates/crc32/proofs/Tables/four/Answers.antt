use mathlib.Core.Path.{◌≡◌, ap}
use Prim.Native.Nat.{◌+◌, ◌*◌, ◌/◌, ◌%◌}
use borrow.Author.Rules.{rules}
use Rattle.crc32.proofs.Words.{four_bytes}
use Rattle.crc32.proofs.Tables.four.Goals as goal

pub returns : goal.returns
returns c =
    let a = c.args.a in
    let b0 : c.from.result ≡ a % 256 = search rules in
    let b1 : c.from-2.result ≡ a / 256 % 256 = search rules in
    let b2 : c.from-3.result ≡ a / 65536 % 256 = search rules in
    let b3 : c.from-4.result ≡ a / 16777216 % 256 = search rules in
    four_bytes c.args.self.now.numbers c.args.self.now.is_slots a c.args.j _ _ _ _ c.requires c.ranges.a.fits
    (ap (λ x. x + 256 * (c.args.j + 3)) b0) (ap (λ x. x + 256 * (c.args.j + 2)) b1)
    (ap (λ x. x + 256 * (c.args.j + 1)) b2) (ap (λ x. x + 256 * c.args.j) b3)
