-- Document 01's examples, byte for byte from the definition: "On generation 3, sequence 7, L2, ids 1 (127, 0) and 2 (127, 0.25), query (127, 0.25),
-- k 1, limit 1 it prints", and "With limit 2 that line is".
use mathlib.Core.Path.{◌≡◌, refl}
use mathlib.Core.Bool.{true, false}
use mathlib.Core.List.{[], ◌∷◌}
use lib.IntN.{pos, negsuc}
use lib.Ieee.{fin, to_bits}
use Rattle.text.specs.Ascii.{ascii}
use Rattle.text.specs.Digits.{decimal_in, decimal, hex_digit, hex_digits, hex16}
use Rattle.listing_text.specs.Listing.{place_line, lines, lines_of, report_line, listing, refusal_text}

-- 0.0625 = 2 ^ -4, the square of 0.25
pub limit-one : listing (record { generation = 3; sequence = 7; eligible = 2; measured = 1; complete = true; approximate = true; count = 1 }) (lines_of (1 ∷ []) (fin false 1 (negsuc 3) ∷ []) (0 ∷ []) 1)
    ≡ ascii "generation 3 sequence 7 eligible 2 measured 1 complete 1 approximate 1\n1 1 3fb0000000000000 0\n"
unfolding listing report_line lines place_line lines_of decimal decimal_in hex16 hex_digits hex_digit to_bits
limit-one = refl

pub limit-two : listing (record { generation = 3; sequence = 7; eligible = 2; measured = 2; complete = true; approximate = false; count = 1 }) (lines_of (2 ∷ []) (fin false 0 (pos 0) ∷ []) (1 ∷ []) 1)
    ≡ ascii "generation 3 sequence 7 eligible 2 measured 2 complete 1 approximate 0\n1 2 0000000000000000 1\n"
unfolding listing report_line lines place_line lines_of decimal decimal_in hex16 hex_digits hex_digit to_bits
limit-two = refl

pub refused : refusal_text (record { number = 14; place = 3 }) ≡ ascii "refused 14 at 3\n"
unfolding refusal_text decimal decimal_in
refused = refl

-- readings R37: "k = 0 prints the first line alone"
pub none : listing (record { generation = 3; sequence = 7; eligible = 2; measured = 0; complete = true; approximate = false; count = 0 }) (lines_of [] [] [] 0) ≡ ascii "generation 3 sequence 7 eligible 2 measured 0 complete 1 approximate 0\n"
unfolding listing report_line lines lines_of decimal decimal_in
none = refl
