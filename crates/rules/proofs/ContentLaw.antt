-- Each class of the rules is lawful: its line here is the law that its builder has, or one of its own; and what the
-- proofs ask of a set of rules.
-- Assumes nothing.
use Prim.Native.Nat.{ℕ, zero, suc, ◌≤◌}
use mathlib.Core.Path.{◌≡◌, refl}
use mathlib.Core.Bool.{Bool, true, false}
use mathlib.Core.Logic.{◌⊎◌, inl, inr}
use mathlib.Core.List.{List, [], ◌∷◌}
use native.Mathlib.Omega.{arith}
use lib.Dec.{T}
use Rattle.rules.specs.Tests.{◌≤?◌, ◌=?◌, ◌and◌, ◌or◌, pick, every}
use Rattle.rules.proofs.Tests.{every_head, every_tail, eq_of, pick_case}
use Rattle.rules.specs.Contents.{within, in_set, some_length}
use Rattle.rules.specs.Table.{Rules, Row, class_fault, type_fault, row_in, row_of, class_of, whole, length_fits, rules_of, listed, listed_in}
use Rattle.rules.specs.declared.Book.{Book}
use Rattle.rules.specs.declared.Book.TheVariants.{PresentStrict, PresentLenient, OldStrict, OldLenient}
use Rattle.rules.specs.ContentJudge.{judge_of}
use Rattle.rules.proofs.ClassLaw.{Lawful}
use Rattle.rules.specs.declared.Class.{Class}
use Rattle.rules.specs.declared.Class.TheVariants.{Carried, Date, Number, Absent, Name, Lamp, Identity, CallType, Waiting, Forwarded, User, ShortText, Moment, Charge, Duration, Terminal, Display, Service, Extension, OldNumber, OldForwarded, OldUser, Unlisted}
use Rattle.rules.proofs.BuilderLaw.{any_in, pairs_lawful, columns_lawful, text_lawful, headed_lawful}
use Rattle.rules.proofs.CalendarLaw.{calendar_lawful, calendar_or_lawful}
use Rattle.rules.proofs.ChargeLaw.{charge_lawful}
use Rattle.rules.proofs.TerminalLaw.{terminal_lawful}
use Rattle.rules.proofs.ExtensionLaw.{extension_lawful}

-- ---- each class is lawful
pub lawful : (c : Class) → Lawful (whole c) (judge_of c)
unfolding whole judge_of every any_in ◌and◌ ◌≤?◌
lawful Date = calendar_lawful _ tt
lawful Number = text_lawful _ _ tt
lawful Absent = columns_lawful _ tt
lawful Name = text_lawful _ _ tt
lawful Lamp = columns_lawful _ tt
lawful Identity = columns_lawful _ tt
lawful CallType = columns_lawful _ tt
lawful Waiting = columns_lawful _ tt
lawful Forwarded = columns_lawful _ tt
lawful User = columns_lawful _ tt
lawful ShortText = text_lawful _ _ tt
lawful Moment = calendar_or_lawful _ _ tt tt
lawful Charge = charge_lawful
lawful Duration = pairs_lawful _ tt
lawful Terminal = terminal_lawful _ tt
lawful Display = headed_lawful _ _ _ tt
lawful Service = columns_lawful _ tt
lawful Extension = extension_lawful _ tt
lawful OldNumber = text_lawful _ _ tt
lawful OldForwarded = columns_lawful _ tt
lawful OldUser = columns_lawful _ tt
lawful Unlisted = text_lawful _ _ tt
lawful Carried = text_lawful _ _ tt

-- ---- what the proofs ask of a set of rules
-- 02H takes the lengths 1, 2 and 3, of which every ending is made
pub record SoundRules (R : Rules) : Type 0 where
  -- a type that has a row has a length, so that none gets 10
  pub rows : T (every (λ (r : Row). class_fault r.class =? 3) R.rows)
  -- the lengths 1, 2 and 3 of 02H
  pub one : T (length_fits (class_of R 0x02) 1)
  pub two : T (length_fits (class_of R 0x02) 2)
  pub three : T (length_fits (class_of R 0x02) 3)

-- a class that cannot stand in its room gets 3, or 10
pub class_fault_lem : (c : Class) → (class_fault c ≡ 3) ⊎ (class_fault c ≡ 10)
unfolding class_fault
class_fault_lem c =
    pick_case (λ (k : ℕ). (k ≡ 3) ⊎ (k ≡ 10)) (some_length (whole c).lengths) 3 10 (λ _. inl refl) (λ _. inr refl)

row_fault : (d : Row) (rs : List Row) (t : ℕ) → T (every (λ (r : Row). class_fault r.class =? 3) rs) →
    class_fault (row_in d rs t).class ≡ pick (listed_in rs t) 3 (class_fault d.class)
unfolding row_in listed_in pick ◌or◌
row_fault d [] t s = refl
row_fault d (r ∷ rs) t s =
    go (row_fault d rs t (every_tail (λ (r : Row). class_fault r.class =? 3) r rs s)) (t =? r.kind)
  where
    go : class_fault (row_in d rs t).class ≡ pick (listed_in rs t) 3 (class_fault d.class) → (b : Bool) →
        class_fault (pick b r (row_in d rs t)).class ≡ pick (b or listed_in rs t) 3 (class_fault d.class)
    go ih true = eq_of _ _ (every_head (λ (r : Row). class_fault r.class =? 3) r rs s)
    go ih false = ih

-- a type that cannot stand gets 3 where it has a row, else the number of the types without one
pub type_fault_lem : (R : Rules) → SoundRules R → (t : ℕ) → type_fault R t ≡ pick (listed R t) 3 (class_fault R.others)
unfolding type_fault class_of row_of listed
type_fault_lem R S t = row_fault _ R.rows t S.rows

pub sound_rules : (b : Book) → SoundRules (rules_of b)
unfolding rules_of class_fault some_length every whole ◌and◌ ◌or◌ ◌≤?◌ ◌=?◌ pick in_set within class_of row_of row_in
sound_rules PresentStrict = record { rows = tt; one = tt; two = tt; three = tt }
sound_rules PresentLenient = record { rows = tt; one = tt; two = tt; three = tt }
sound_rules OldStrict = record { rows = tt; one = tt; two = tt; three = tt }
sound_rules OldLenient = record { rows = tt; one = tt; two = tt; three = tt }

-- a room can be filled with parameters of type 02H, by lengths 1, 2 and 3
pub small : (R : Rules) → SoundRules R → (n : ℕ) → 1 ≤ n → n ≤ 3 → T (length_fits (class_of R 0x02) n)
small R S zero l m = absurd (omega arith)
small R S (suc zero) l m = S.one
small R S (suc (suc zero)) l m = S.two
small R S (suc (suc (suc zero))) l m = S.three
small R S (suc (suc (suc (suc n)))) l m = absurd (omega arith)
