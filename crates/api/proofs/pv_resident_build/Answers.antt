use mathlib.Core.Path.{ap, ◌∙◌}
use Rattle.config.specs.Told.{granted}
use Rattle.format.specs.declared.Head.{Head}
use Rattle.resident.specs.declared.ResidentState.{ResidentState}
use Rattle.api_state.specs.Bytes.{resident_bytes, resident_in}
use Rattle.config.proofs.Granted.{granted-is}
use Rattle.api.proofs.pv_resident_build.Goals as goal

-- the state of no head
abbrev nothing : Head → ResidentState
nothing h = record { head = h; codes = 0; scales = 0; norms = 0 }

pub returns : goal.returns
returns c =
    let e = c.build-answer.ensures in
    let f = e.0 in
    let t = c.tell-number.ensures in
    let p = c.put_resident.ensures in
    let s =
    c.unwrap_or.ensures ∙ granted-is c.build-answer.result (nothing c.zero_head.result) ∙ ap (λ (h : Head). granted (nothing h) c.build-answer.result) c.zero_head.ensures
    ∙ ap (λ k. k.state) f in
    let r = ap (λ k. k.refusal) f in
    record {
      fact = (t.0 ∙ ap (λ k. k.refusal.number) f, t.1 ∙ ap (λ k. k.refusal.place) f, p.0 ∙ ap resident_bytes s, ap resident_in p.0 ∙ p.1 ∙ s, rw r at e.2, rw r at e.3, rw r at e.4);
      scratch_after = e.1;
    }
