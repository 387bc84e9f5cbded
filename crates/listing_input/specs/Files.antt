-- The six files of the list program and its first tests (document 01, Contracts and proved cases: "A file over 65,536 bytes makes it print
-- `too long` alone; after that test, a missing file, a QUERY not of whole f32s, a CALL not of 8 bytes or a PLACE without newline, `bad
-- input` alone"; readings R37: "`too long` is tested over all files that are there, before `bad input`").
use Rattle.std.specs.Prelude.{Bool, false, not, ◌||◌, cond, List, [], ℕ, ◌%◌, eqb, ltb, length, Option, None, Some, is_none, unwrap_or, option_copied, Result, Ok, Err}
use Rattle.listing_input.specs.Parts.{max_file_bytes, newline_at}
use Rattle.listing_input.specs.declared.Input.{Input}
use Rattle.listing_input.specs.declared.InputError.{InputError}
use Rattle.listing_input.specs.declared.InputError.TheVariants.{TooLong, BadInput}
use Rattle.listing_input.specs.declared.tested.Whole.{Whole}

-- a file's bytes, if it is there ("An unreadable file counts as missing")
abbrev pub File : Type 0
File = Option (List ℕ)

pub record Files : Type 0 where
  pub manifest : File
  pub segments : File
  pub cache : File
  pub query : File
  pub call : File
  pub place : File

-- the six as they are lent
abbrev pub files_of : Input → Files
files_of f =
    record {
      manifest = option_copied f.manifest;
      segments = option_copied f.segments;
      cache = option_copied f.cache;
      query = option_copied f.query;
      call = option_copied f.call;
      place = option_copied f.place;
    }

-- and as they are after the tests
abbrev pub all_of : Whole → Files
all_of w =
    record {
      manifest = Some w.manifest.now;
      segments = Some w.segments.now;
      cache = Some w.cache.now;
      query = Some w.query.now;
      call = Some w.call.now;
      place = Some w.place.now;
    }

-- what a file holds, nothing where it is missing
abbrev pub bytes_of : File → List ℕ
bytes_of file = unwrap_or file []

-- one of the six passes
unfoldable pub some : (File → Bool) → Files → Bool
some test f = test f.manifest || test f.segments || test f.cache || test f.query || test f.call || test f.place

abbrev pub overlong : File → Bool
overlong None = false
overlong (Some bytes) = ltb max_file_bytes (length bytes)

abbrev pub missing : File → Bool
missing file = is_none file

unfoldable pub is_too_long : Files → Bool
is_too_long f = some overlong f

unfoldable pub is_bad_input : Files → Bool
is_bad_input f =
    some missing f || not (eqb (length (bytes_of f.query) % 4) 0) || not (eqb (length (bytes_of f.call)) 8) || is_none (newline_at (bytes_of f.place))

-- what is printed alone, or that the files are whole
unfoldable pub input_of : Files → Result (Unit {0}) InputError
input_of f = cond (is_too_long f) (Err TooLong) (cond (is_bad_input f) (Err BadInput) (Ok tt))
