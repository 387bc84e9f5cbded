use mathlib.Core.Path.{refl, sym, ◌∙◌}
use Prim.Native.Nat.{◌^◌, ◌<◌}
use lib.Dec.{leb}
use Rattle.std.proofs.lemmas.Result.{err_from_is_err_and}
use Rattle.config.proofs.Numbers.{some_number}
use Rattle.rank.proofs.Members.{all-at}
use Rattle.rank.proofs.Rows.{sort-below}
use Rattle.rerank.proofs.Ranked.{ranked, not_ranked}
use Rattle.rerank.proofs.Original.rerank.Goals as goal

pub measure_rows-requires : goal.measure_rows-requires
measure_rows-requires c =
    (rw c.sort_numbers.ensures (sort-below leb c.args.self.now.library.manifest.layout.rows c.args.rs.now c.requires.0), c.requires.1 ∙ sym c.sort_numbers.auto.a)

pub returns-in_err-measured : goal.returns-in_err-measured
returns-in_err-measured c =
    let p = err_from_is_err_and c.from_residual.result c.from_residual.ensures.1 in
    λ C alike. rw (p.1, p.2) (not_ranked c.args.self.now c.requires.0 c.sort_numbers.ensures c.in_err-measured.ensures C alike (some_number c.in_err-measured.field-0.0.number) c.measure_rows.new.ks c.sort_numbers.new.a)

pub returns : goal.returns
returns c =
    let h = c.heap_sort_pairs.auto.ks ∙ c.measure_rows.auto.ks ∙ c.requires.1 ∙ sym c.sort_numbers.auto.a ∙ sym c.heap_sort_pairs.auto.rs in
    let f = all-at (λ z. z < 2 ^ 64) c.heap_sort_pairs.new.rs 0 (λ i l. (c.type_inv.rs i).fits) in
    λ C alike. ranked c.args.self.now c.requires.0 c.sort_numbers.ensures c.in_ok-measured.ensures C alike c.heap_sort_pairs.new.ks c.heap_sort_pairs.new.rs h f c.heap_sort_pairs.ensures refl
