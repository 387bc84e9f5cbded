-- What is granted: on a refusal what stands for nothing, as `unwrap_or` has it.
use mathlib.Core.Path.{◌≡◌, refl}
use Rattle.std.specs.Prelude.{Result, Ok, Err}
use Rattle.std.specs.Result.{result_unwrap_or}
use Rattle.config.specs.Told.{granted}

pub granted-is : {A E : Type 0} (r : Result A E) (nothing : A) → result_unwrap_or r nothing ≡ granted nothing r
granted-is (Ok a) nothing = refl
granted-is (Err e) nothing = refl
