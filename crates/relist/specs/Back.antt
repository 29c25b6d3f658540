-- What a value of a listing says, style by style (document 02, Q-1): its contents are read off where the style prints
-- them, whatever the text is. It is a value exactly where these contents print as it (`unprinted`): so which marks,
-- words and digits a value has is said by the listing's own definitions alone. A place or a letter that were wrong here
-- could only refuse; `back_of_printed` shows that none is.
-- Assumes nothing.
use Rattle.std.specs.Prelude.{ℕ, ◌+◌, ◌*◌, ◌/◌, ◌%◌, List, [], ◌∷◌, ◌++◌, length, take, drop, slice_index, slice_index_or, replicate}
use Rattle.std.proofs.Math.Option.{Option, none, some}
use Rattle.rules.specs.Tests.{◌=?◌, pick}
use Rattle.rules.specs.Pairwise.{same_octets}
use Rattle.rules.specs.Laying.{laid}
use Rattle.rules.specs.Table.{Style, clock, verbatim, switch, reference, decimal, hex, numbered, moment, duration, charge, terminal, display}
use Rattle.listing.specs.Numerals.{number_from, hex_value}
use Rattle.listing.specs.Listing.{printed}
use Rattle.relist.specs.declared.Back.{Back}

-- ---- pieces
-- the octet that two hex digits say, from the place i on
unfoldable pub hex_at : List ℕ → ℕ → ℕ
hex_at t i = (16 * hex_value (slice_index t i) + hex_value (slice_index t (i + 1))) % 256

-- the number that the digits from the place i on say, modulo 65536
unfoldable pub number_at : List ℕ → ℕ → ℕ
number_at t i = number_from 0 (drop i t) % 65536

-- two octets and a mark, again and again: the first n octets of ten
unfoldable pub pairs_back : List ℕ → ℕ → Back
pairs_back t n = record {
  octets =
      slice_index t 0 ∷ slice_index t 1 ∷ slice_index t 3 ∷ slice_index t 4 ∷ slice_index t 6 ∷ slice_index t 7 ∷ slice_index t 9 ∷ slice_index t 10 ∷
      slice_index t 12 ∷ slice_index t 13 ∷
      [];
  length = n;
  from = length t;
}

-- octets, and the text from a place on
unfoldable pub octets_back : List ℕ → ℕ → Back
octets_back v from = record { octets = laid v (replicate 10 0); length = length v; from = from }

-- one octet
unfoldable pub one_back : ℕ → List ℕ → Back
one_back x t = octets_back (x ∷ []) (length t)

-- ---- styles of more than one kind of value
-- a word of two letters is on
unfoldable pub switch_back : List ℕ → Back
switch_back t = one_back (pick (length t =? 2) 0xFF 0x00) t

-- a state and its reference, which the digits from a place on say
unfoldable pub state_back : ℕ → List ℕ → ℕ → Back
state_back x t i = octets_back (x ∷ number_at t i / 256 ∷ number_at t i % 256 ∷ []) (length t)

-- the third octet tells the words: the gap behind `on`, an f of `off`, the s of `unset`
unfoldable pub reference_back : List ℕ → Back
reference_back t =
    pick (slice_index_or t 2 0 =? 0x20) (state_back 0xFF t 3)
    (pick (slice_index_or t 2 0 =? 0x66) (state_back 0x00 t 4) (state_back 0x55 t 6))

-- seconds stand in a text of fourteen
unfoldable pub moment_back : List ℕ → Back
moment_back t = pairs_back t (pick (length t =? 14) 10 8)

-- the first octet tells the words: the c of `connection`, the n of `number`, the s of `subaddress`
unfoldable pub terminal_back : List ℕ → Back
terminal_back t =
    pick (slice_index_or t 0 0 =? 0x63) (octets_back (1 ∷ hex_at t 11 ∷ []) (length t))
    (pick (slice_index_or t 0 0 =? 0x6E) (octets_back (2 ∷ []) 7) (octets_back (3 ∷ []) 11))

-- ---- each style
unfoldable pub back_of : Style → List ℕ → Back
back_of clock t = pairs_back t 8
back_of verbatim t = octets_back [] 0
back_of switch t = switch_back t
back_of reference t = reference_back t
back_of decimal t = one_back (number_at t 0 % 256) t
back_of hex t = one_back (hex_at t 0) t
back_of numbered t = octets_back [] (length t)
back_of moment t = moment_back t
back_of duration t = pairs_back t 6
back_of charge t = octets_back (slice_index t 0 ∷ slice_index t 1 ∷ slice_index t 2 ∷ hex_at t 4 ∷ []) 7
back_of terminal t = terminal_back t
back_of display t = octets_back (hex_at t 0 ∷ []) 3

-- what was read off: octets, and the text behind a place
unfoldable pub read_off : Back → List ℕ → List ℕ
read_off b t = take b.length b.octets ++ drop b.from t

unfoldable pub back : Style → List ℕ → List ℕ
back s t = read_off (back_of s t) t

-- the contents that print as a text in a style, if there are any
unfoldable pub unprinted : Style → List ℕ → Option (List ℕ)
unprinted s t = pick (same_octets (printed s (back s t)) t) (some (back s t)) none
