-- Records read in their own order.
use mathlib.Core.Path.{◌≡◌, sym, ap, ◌∙◌}
use mathlib.Core.Bool.{true}
use mathlib.Core.List.{List, map}
use Prim.Native.Nat.{ℕ, ◌≤◌}
use lib.ListN.{length, get_or, length-map}
use Rattle.rank.proofs.Members.{all-at}
use Rattle.format.specs.Fields.{rows_of}
use Rattle.format.proofs.First.{each_passes, all_pass}
use Rattle.entries.specs.Plan.{rows_ok}
use Rattle.manifest.specs.Tiling.{physical}
use Rattle.manifest.specs.Scratch.{key_row, row_keys}
use Rattle.manifest.proofs.Parts.{of_all, all-keys}
use Rattle.segment.specs.Record.{record_ok}
use Rattle.segment.specs.Check.{bad_record}
use Rattle.encoded_rows.specs.Rows.{lowest_bad}

-- where none of them fails, no row does
pub ordered_good : (m s keys : List ℕ) → rows_ok m ≡ true → rows_of m ≤ 1000000 → keys ≡ row_keys m
    → bad_record m s (map key_row keys) ≡ length keys → rows_of m ≡ lowest_bad m s
ordered_good m s keys ok few k e =
    let r = (all-keys m ok few keys k).0 in
    let f : bad_record m s (physical m) ≡ length (physical m) =
    ap (bad_record m s) (sym r) ∙ e ∙ sym (length-map keys key_row) ∙ ap (λ l. length l) r in
    sym (all_pass (record_ok m s) (rows_of m)
    (λ i h. all-at (λ z. record_ok m s z ≡ true) (physical m) 0 (λ j. each_passes (λ t. record_ok m s (get_or (physical m) t 0)) (length (physical m)) j f) i (of_all m i h)))
