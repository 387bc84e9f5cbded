-- No refusal has the number 0.
use mathlib.Core.Path.{◌≡◌}
use Rattle.config.specs.Told.{number_of}
use Rattle.config.specs.declared.Number.{Number}
use Rattle.config.specs.declared.Number.TheVariants as N
use Rattle.config.proofs.Refusals.{not_zero}

pub some_number : (n : Number) → number_of n ≡ 0 → ⊥
some_number N.Layout h = not_zero h
some_number N.Configuration h = not_zero h
some_number N.ManifestCrc h = not_zero h
some_number N.Tiling h = not_zero h
some_number N.Record h = not_zero h
some_number N.SegmentCrc h = not_zero h
some_number N.Options h = not_zero h
some_number N.CodeBytes h = not_zero h
some_number N.CacheBytes h = not_zero h
some_number N.Names h = not_zero h
some_number N.Room h = not_zero h
some_number N.CacheHead h = not_zero h
some_number N.Identity h = not_zero h
some_number N.Row h = not_zero h
some_number N.CacheCrc h = not_zero h
some_number N.Query h = not_zero h
some_number N.Results h = not_zero h
some_number N.Candidates h = not_zero h
some_number N.Ids h = not_zero h
some_number N.AnswerRoom h = not_zero h
some_number N.Changed h = not_zero h
some_number N.Approximate h = not_zero h
some_number N.RecordChanged h = not_zero h
some_number N.Original h = not_zero h
