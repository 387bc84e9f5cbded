-- What the list program prints, byte for byte (document 01, Contracts and proved cases; readings R37: "Every line ends in a newline; places
-- from 1; hexadecimal in 16 lower-case digits; k = 0 prints the first line alone").
use Rattle.std.specs.Prelude.{Bool, cond, not, List, [], ◌∷◌, ◌++◌, ℕ, zero, suc, ◌<◌, T, Float, get_or}
use Prim.Native.Char.{code}
use Rattle.std.specs.Float.{nan, binary64}
use Rattle.std.specs.Float.Ieee.{is_nan, to_bits}
use Rattle.text.specs.Ascii.{ascii}
use Rattle.text.specs.Digits.{decimal, hex16}
use Rattle.config.specs.Refusal.{Refusal}
use Rattle.search_spec.specs.declared.Place.{Place}
use Rattle.search_spec.specs.declared.Report.{Report}

-- ---- where nothing is listed

-- document 01: "A file over 65,536 bytes makes it print `too long` alone; after that test, .. `bad input` alone"
abbrev pub too_long : List ℕ
too_long = ascii "too long\n"

abbrev pub bad_input : List ℕ
bad_input = ascii "bad input\n"

-- a word and a number
abbrev pub field : List ℕ → ℕ → List ℕ
field w x = w ++ decimal x

abbrev pub space : List ℕ
space = code " " ∷ []

abbrev pub newline : List ℕ
newline = code "\n" ∷ []

-- document 01: "A refusal prints `refused N at P`"
unfoldable pub refusal_text : Refusal → List ℕ
refusal_text r = field (ascii "refused ") r.number ++ field (ascii " at ") r.place ++ newline

-- ---- a search's list

abbrev pub bit : Bool → ℕ
bit b = cond b 1 0

-- document 01: "generation 3 sequence 7 eligible 2 measured 1 complete 1 approximate 1"
unfoldable pub report_line : Report → List ℕ
report_line r =
    field (ascii "generation ") r.generation
    ++ field (ascii " sequence ") r.sequence
    ++ field (ascii " eligible ") r.eligible
    ++ field (ascii " measured ") r.measured
    ++ field (ascii " complete ") (bit r.complete)
    ++ field (ascii " approximate ") (bit r.approximate)
    ++ newline

-- what a line of the list says behind its place
pub record Line : Type 0 where
  pub id : ℕ
  pub bits : ℕ
  pub row : ℕ

-- document 01: "The second line is place, id, distance bits in hexadecimal, row"
unfoldable pub place_line : ℕ → Line → List ℕ
place_line p l = decimal p ++ field space l.id ++ space ++ hex16 l.bits ++ field space l.row ++ newline

-- the lines from place p on
unfoldable pub lines : ℕ → List Line → List ℕ
lines p [] = []
lines p (l ∷ ls) = place_line p l ++ lines (suc p) ls

unfoldable pub listing : Report → List Line → List ℕ
listing r ls = report_line r ++ lines 1 ls

-- ---- the lines of places, and of the answer slices

abbrev pub line_of : Place → Line
line_of p = record { id = p.id; bits = to_bits binary64 p.distance; row = p.row }

abbrev pub line_at : List ℕ → List Float → List ℕ → ℕ → Line
line_at ids distances rows i = record { id = get_or ids i 0; bits = to_bits binary64 (get_or distances i nan); row = get_or rows i 0 }

-- the first n
unfoldable pub lines_of : List ℕ → List Float → List ℕ → ℕ → List Line
lines_of ids distances rows zero = []
lines_of ids distances rows (suc n) = lines_of ids distances rows n ++ (line_at ids distances rows n ∷ [])

-- none of the first n is a NaN, which alone has no one pattern
abbrev pub Numbers : List Float → ℕ → Type 0
Numbers distances n = (k : ℕ) → k < n → T (not (is_nan (get_or distances k nan)))

-- ---- how much it can be

-- readings R37: "Files of 65,536 bytes hold at most 3,272 rows"
abbrev pub most_places : ℕ
most_places = 3272

-- 147 bytes of the first line, and 64 of each place's
abbrev pub listing_bytes : ℕ
listing_bytes = 209555
