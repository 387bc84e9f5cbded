use mathlib.Core.Path.{◌≡◌, sym, ap, ◌∙◌}
use Prim.Native.Nat.{ℕ, ◌+◌, ◌-◌, ◌≤◌}
use native.Mathlib.Omega.{arith}
use lib.ListN.{length, take, drop, length-drop}
use lib.Seq.{take_all}
use Rattle.std.specs.Prelude.{Some, Ok, Err}
use Rattle.text.proofs.Puts.{put_same}
use Rattle.listing_text.specs.Listing.{refusal_text}
use Rattle.listing_input.specs.Files.{Files, bytes_of, all_of}
use Rattle.listing_input.specs.Parts.{newline_at, platform_of, root_part}
use Rattle.config.proofs.Numbers.{some_number}
use Rattle.quantized_cache.specs.Open.{Opened, open_outcome}
use Rattle.search_spec.specs.Kept.{cached}
use Rattle.listing.specs.Output.{admitted, call_on, admission, found, answer_text}
use Rattle.listing.proofs.Answers.{refused-answer, found-answer}
use Rattle.listing.proofs.answer.Goals as goal

-- PLACE as it is parted at its newline
admits : (f : Files) (n : ℕ) (r : Opened) → newline_at (bytes_of f.place) ≡ Some n
    → r ≡ admitted (bytes_of f.manifest) (bytes_of f.segments) (bytes_of f.cache) (take n (bytes_of f.place)) (take (length (bytes_of f.place) - (n + 1)) (drop (n + 1) (bytes_of f.place)))
    → r ≡ admission f
unfolding admission platform_of root_part
admits f n r e h =
    let place = bytes_of f.place in
    let l : length (drop (n + 1) place) ≤ length place - (n + 1) = simp length-drop (omega arith) in
    rw (e, ← take_all (length place - (n + 1)) (drop (n + 1) place) l) h

pub returns-in-Err-clause-put : goal.returns-in-Err-clause-put
returns-in-Err-clause-put c =
    let w = c.args.files.now in
    let f = all_of w in
    let x = c.in-Err.refused in
    let e : open_outcome (Err x) ≡ admission f = rw c.in-Err.is at (admits f w.newline (open_outcome c.admit.result) w.parted c.admit.ensures) in
    put_same (ap refusal_text (ap (λ (o : Opened). o.refusal) e)
    ∙ refused-answer f (λ z. some_number x.number (ap (λ (o : Opened). o.refusal.number) e ∙ z))) c.write_refusal.ensures.put

pub returns-in-Ok-clause-put : goal.returns-in-Ok-clause-put
unfolding found
returns-in-Ok-clause-put c =
    let w = c.args.files.now in
    let f = all_of w in
    let e : open_outcome (Ok c.in-Ok.state) ≡ admission f = rw c.in-Ok.is at (admits f w.newline (open_outcome c.admit.result) w.parted c.admit.ensures) in
    put_same (
    ap (λ (x : Opened). let o = cached x.state w.cache.now (call_on w.manifest.now w.segments.now w.query.now w.call.now) in answer_text o.refusal o.report o.list) e
    ∙ found-answer f (ap (λ (x : Opened). x.refusal.number) (sym e))) c.find.ensures.fact
