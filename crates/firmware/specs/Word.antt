-- The answer of an export, packed into one word: octet 0 (the lowest) the number, 0 where there is none; octets 1 and
-- 2 the place; octets 3 and 4 a size; octets 5 and 6 the octets taken, or the start of what counts; octet 7, in its
-- bits 0 to 6, the parameter, and in its bit 7 the edition that the answer names (document 02, Q-3 and Q-5).
-- Assumes nothing.
use Rattle.std.specs.Prelude.{ℕ, ◌+◌, ◌*◌, ◌/◌, ◌%◌, ◌<◌, ◌≡◌, refl, List}
use Rattle.std.proofs.Common.{sym, subst, arith}

unfoldable pub packed : ℕ → ℕ → ℕ → ℕ → ℕ → ℕ → ℕ
packed edition number place parameter size taken =
    number + 256 * place + 16777216 * size + 1099511627776 * taken
    + 72057594037927936 * (parameter % 128 + 128 * (edition % 2))

-- the fields of a word, as the header's readers take them
unfoldable pub word_number : ℕ → ℕ
word_number w = w % 256

unfoldable pub word_place : ℕ → ℕ
word_place w = w / 256 % 65536

unfoldable pub word_size : ℕ → ℕ
word_size w = w / 16777216 % 65536

unfoldable pub word_taken : ℕ → ℕ
word_taken w = w / 1099511627776 % 65536

unfoldable pub word_parameter : ℕ → ℕ
word_parameter w = w / 72057594037927936 % 128

unfoldable pub word_edition : ℕ → ℕ
word_edition w = w / 9223372036854775808

-- what is packed is read back, and the word holds nothing else
pub record Unpacked (e k p b n t w : ℕ) : Type 0 where
  pub whole : w ≡ packed e k p b n t
  pub edition : word_edition w ≡ e
  pub number : word_number w ≡ k
  pub place : word_place w ≡ p
  pub parameter : word_parameter w ≡ b
  pub size : word_size w ≡ n
  pub taken : word_taken w ≡ t

pub unpacked : (e k p b n t : ℕ) → e < 2 → k < 256 → p < 65536 → b < 128 → n < 65536 → t < 65536 →
    Unpacked e k p b n t (packed e k p b n t)
unfolding packed word_edition word_number word_place word_parameter word_size word_taken
unpacked e k p b n t h x y z u v =
    record {
      whole = refl;
      edition = omega arith;
      number = omega arith;
      place = omega arith;
      parameter = omega arith;
      size = omega arith;
      taken = omega arith;
    }

-- ---- 16 and 17: at place 0, 0 in every other field, the edition too, and the record, which held c, as it was
pub record Plain (k : ℕ) (c : List ℕ) (w : ℕ) (c' : List ℕ) : Type 0 where
  pub word : Unpacked 0 k 0 0 0 0 w
  pub cells : c' ≡ c

abbrev pub Sixteen : List ℕ → ℕ → List ℕ → Type 0
Sixteen c w c' = Plain 16 c w c'

abbrev pub Seventeen : List ℕ → ℕ → List ℕ → Type 0
Seventeen c w c' = Plain 17 c w c'

pub plain_word : (k w : ℕ) → k < 256 → w ≡ packed 0 k 0 0 0 0 → Unpacked 0 k 0 0 0 0 w
plain_word k w h e =
    subst (Unpacked 0 k 0 0 0 0) (sym e)
    (unpacked 0 k 0 0 0 0 (omega arith) h (omega arith) (omega arith) (omega arith) (omega arith))

pub sixteen : (c : List ℕ) (w : ℕ) (c' : List ℕ) → w ≡ packed 0 16 0 0 0 0 → c' ≡ c → Sixteen c w c'
sixteen c w c' e f = record { word = plain_word 16 w (omega arith) e; cells = f }

pub seventeen : (c : List ℕ) (w : ℕ) (c' : List ℕ) → w ≡ packed 0 17 0 0 0 0 → c' ≡ c → Seventeen c w c'
seventeen c w c' e f = record { word = plain_word 17 w (omega arith) e; cells = f }
