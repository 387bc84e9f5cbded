use mathlib.Core.Path.{◌≡◌, sym, ap, ◌∙◌}
use mathlib.Core.List.{List}
use Prim.Native.Nat.{ℕ}
use Rattle.std.specs.Prelude.{Ok, Err}
use Rattle.std.proofs.lemmas.Result.{err_from_is_err_and}
use Rattle.config.specs.Refusal.{Refusal}
use Rattle.config.proofs.Numbers.{some_number}
use Rattle.cache_format.specs.declared.Options.{Options}
use Rattle.manifest.specs.Check.{Checked, outcome, checked}
use Rattle.segment.specs.Check.{checked_library}
use Rattle.quantized_cache.specs.Open.{Opened, zero_cache_state, opened}
use Rattle.listing_text.specs.Listing.{most_places}
use Rattle.listing.proofs.Admits.{refused-first, refused-second, opened_last}
use Rattle.listing.proofs.admit.Goals as goal

-- what each check returned; the scratch keeps its length
one : (m : List ℕ) (crc n : ℕ) (r : Checked) → most_places ≡ n → r ≡ checked m crc n → r ≡ checked m crc most_places
one m crc n r e h = h ∙ ap (λ (n : ℕ). checked m crc n) (sym e)

two : (m s : List ℕ) (crc n : ℕ) (r : Checked) → most_places ≡ n → r ≡ checked_library m crc n s → r ≡ checked_library m crc most_places s
two m s crc n r e h = h ∙ ap (λ (n : ℕ). checked_library m crc n s) (sym e)

-- a refusal, and no state
abbrev turned-away : Refusal → Opened
turned-away r = record { refusal = r; state = zero_cache_state }

pub returns-in_err-check : goal.returns-in_err-check
returns-in_err-check c =
    let a = c.args in
    let d = c.own_crc-crc in
    let x = c.in_err-check.field-0.0 in
    let p = err_from_is_err_and c.from_residual.result c.from_residual.ensures.1 in
    let e = ap (λ (k : Checked). k.refusal) (one a.manifest.now d.result _ (outcome (Err x)) c.zeros-scratch.ensures c.in_err-check.ensures.0) in
    rw (p.1, p.2)
    (ap turned-away e ∙ refused-first a.manifest.now a.segments.now a.cache.now a.location.platform.now a.location.root.now d.result d.ensures
    (λ z. some_number x.number (ap (λ (r : Refusal). r.number) e ∙ z)))

pub returns-in_err-check-2 : goal.returns-in_err-check-2
returns-in_err-check-2 c =
    let a = c.args in
    let d = c.own_crc-crc in
    let h = c.in_ok-check in
    let x = c.in_err-check-2.field-0.0 in
    let p = err_from_is_err_and c.from_residual-in_err-check-2.result c.from_residual-in_err-check-2.ensures.1 in
    let e = ap (λ (k : Checked). k.refusal.number) (one a.manifest.now d.result _ (outcome (Ok h.field-0)) c.zeros-scratch.ensures h.ensures.0) in
    let f = ap (λ (k : Checked). k.refusal) (two a.manifest.now a.segments.now d.result _ (outcome (Err x)) (c.zeros-scratch.ensures ∙ sym c.check.auto.scratch) c.in_err-check-2.ensures.0) in
    rw (p.1, p.2)
    (ap turned-away f ∙ refused-second a.manifest.now a.segments.now a.cache.now a.location.platform.now a.location.root.now d.result d.ensures
    (sym e) (λ z. some_number x.number (ap (λ (r : Refusal). r.number) f ∙ z)))

pub returns : goal.returns
returns c =
    let a = c.args in
    let d = c.own_crc-crc in
    let h = c.in_ok-check in
    let k = c.in_ok-check-2 in
    let e = ap (λ (k : Checked). k.refusal.number) (one a.manifest.now d.result _ (outcome (Ok h.field-0)) c.zeros-scratch.ensures h.ensures.0) in
    let f = ap (λ (k : Checked). k.refusal.number) (two a.manifest.now a.segments.now d.result _ (outcome (Ok k.field-0)) (c.zeros-scratch.ensures ∙ sym c.check.auto.scratch) k.ensures.0) in
    let n = c.check-2.auto.scratch ∙ c.check.auto.scratch ∙ sym c.zeros-scratch.ensures in
    c.«open».ensures.0
    ∙ ap (λ (n : ℕ). opened a.manifest.now d.result n a.cache.now a.location.platform.now a.location.root.now c.default.result) n
    ∙ ap (λ (o : Options). opened a.manifest.now d.result most_places a.cache.now a.location.platform.now a.location.root.now o) c.default.ensures
    ∙ opened_last a.manifest.now a.segments.now a.cache.now a.location.platform.now a.location.root.now d.result d.ensures (sym e) (sym f)
