-- The language of call messages and notices under any sound rules: its grammar, whose messages are those accepted and
-- whose roles are those of their octets.
-- Assumes nothing.
use Prim.Native.Nat.{ℕ, suc, ◌+◌, ◌-◌, ◌≤◌, ◌<◌}
use mathlib.Core.Path.{◌≡◌, refl, sym, ◌∙◌, ap, subst}
use mathlib.Core.Logic.{◌⊎◌, inl, inr}
use mathlib.Core.List.{List, [], ◌∷◌, ◌++◌}
use native.Mathlib.Nat.{zero-add}
use native.Mathlib.Omega.{arith}
use lib.ListN.{length, length-append}
use lib.Dec.{T}
use Rattle.rules.specs.Tests.{◌=?◌}
use Rattle.rules.proofs.Tests.{either, eq_of}
use Rattle.rules.specs.Octets.{Octets, total, checksum}
use Rattle.rules.proofs.Octets.{octets-append}
use Rattle.rules.specs.Table.{Rules, rules_of, class_of, type_fault}
use Rattle.rules.proofs.ClassLaw.{fit_octets}
use Rattle.rules.proofs.ContentLaw.{lawful, SoundRules, sound_rules}
use Rattle.rules.specs.Message as message
use Rattle.rules.specs.Message.{Parameter, AllLegal, message_kind, body, front, octets, Accepts}
use Rattle.rules.specs.Roles.{Role, always, times, body_roles, roles}
use Rattle.rules.specs.Judge.{contents, after, fault, stands_in, machine, named, in_range}
use Rattle.rules.proofs.Remaining.{Fronted, Body, forward, backward, nil_final, final_nil, lives, some_message, at_contents}
use Rattle.rules.proofs.Listening.{close, close-total, trace, Grammar}
use Rattle.rules.proofs.Sizes.{octets-length}
use Rattle.rules.proofs.InRange.{in_range_start, in_range_closed, within_258, message_size, refused-number, refused-named, numbers_of_lem}
use Rattle.rules.specs.Language.{calls, language_of}
use Rattle.rules.proofs.Language.{Spoken, in_range-run}
use Rattle.rules.specs.Endings.{Spoilt, Numbered}
use Rattle.rules.specs.Machine.{start}
use Rattle.rules.specs.Demand3.{Demand3}
use Rattle.rules.proofs.Demand3.{demand3}
use Rattle.rules.specs.declared.Book.{Book}
use Rattle.rules.specs.declared.Class.{Class}
use Rattle.rules.specs.declared.Fault.{Fault}
use Rattle.rules.specs.declared.State.{State}
use Rattle.rules.specs.declared.Stage.{Stage}
use Rattle.rules.specs.declared.Stage.TheVariants.{Kind, Header}

pub closed : (m : message.Message) → close 0 (front m) ≡ octets m
unfolding octets
closed m = close-total 0 (front m) ∙ ap (λ (n : ℕ). front m ++ checksum n ∷ []) (zero-add (total (front m)))

kind_octet : (x : ℕ) → T (message_kind x) → x < 256
unfolding message_kind
kind_octet x t = go (either _ _ t)
  where
    go : T (x =? 0x80) ⊎ T (x =? 0x82) → x < 256
    go (inl e) = omega (arith, eq_of _ _ e)
    go (inr e) = omega (arith, eq_of _ _ e)

module _ (R : Rules) where
  -- contents of parameter b
  trace-contents : (c : Class) (b n i m r : ℕ) (v rest : List ℕ) → i + length v ≡ n →
      trace (machine R) b (contents c n i m r) (v ++ rest) ≡ times (length v) (always 5 b)
      ++ trace (machine R) b (Header r) rest
  unfolding trace after fault stands_in machine times
  trace-contents c b n i m r [] rest e =
      at_contents (λ (s : Stage). trace (machine R) b s rest ≡ trace (machine R) b (Header r) rest) c n i m r
      (λ _. refl) (λ d. absurd (d (omega arith)))
  trace-contents c b n i m r (x ∷ v) rest e =
      at_contents (λ (s : Stage). trace (machine R) b s (x ∷ v ++ rest) ≡ always 5 b ∷ times (length v) (always 5 b)
      ++ trace (machine R) b (Header r) rest) c n i m r
      (λ d. absurd (omega arith))
      (λ d. ap (λ (l : List Role). always 5 b ∷ l) (trace-contents c b n (suc i) _ r v rest (omega arith)))

  -- parameters behind b others
  trace-body : (b : ℕ) (ps : List Parameter) (r : ℕ) → r ≡ length (body ps) →
      trace (machine R) b (Header r) (body ps) ≡ body_roles R (suc b) ps
  unfolding trace after fault stands_in body body_roles machine
  trace-body b [] r e = refl
  trace-body b (q ∷ ps) r e =
      let n = length-append q.contents (body ps) in
      ap (λ (l : List Role). record { number = type_fault R; parameter = suc b } ∷ always 4 (suc b) ∷ l)
      (trace-contents _ (suc b) (length q.contents) 0 0 (r - (length q.contents + 2)) q.contents (body ps)
      (omega arith)
      ∙ ap (λ (l : List Role). times (length q.contents) (always 5 (suc b)) ++ l)
      (trace-body (suc b) ps _ (omega arith)))

  pub trace-front : (m : message.Message) → trace (machine R) 0 Kind (front m) ++ always 6 0 ∷ [] ≡ roles R m
  unfolding trace after fault stands_in roles machine
  trace-front m =
      ap (λ (l : List Role). always 1 0 ∷ always 2 0 ∷ l ++ always 6 0 ∷ []) (trace-body 0 m.parameters _ refl)

module _ (R : Rules) (S : SoundRules R) where
  body-octets : (ps : List Parameter) → AllLegal R ps → length (body ps) < 256 → Octets (body ps)
  unfolding body
  body-octets [] l n = tt
  body-octets (q ∷ ps) l n =
      let e = length-append q.contents (body ps) in (
        l.0.octet,
        (
          omega arith,
          octets-append q.contents (body ps)
              (fit_octets (lawful (class_of R q.kind)) q.contents l.0.fits)
              (body-octets ps l.1 (omega arith)),
        ),
      )

  pub front_octets : (b : List ℕ) → Fronted R b → Octets b
  front_octets b d =
      subst Octets d.is (
        kind_octet _ d.legal.kind,
        (d.legal.short, body-octets d.m.parameters d.legal.parameters d.legal.short),
      )

  unfoldable pub grammar : Grammar (machine R)
  unfolding machine
  grammar = record {
    Body = Body R;
    octets = front_octets;
    forward = forward R S;
    backward = backward R S;
    nil_final = nil_final R S;
    final_nil = final_nil R S;
    lives = lives R S;
    some_message = some_message R S;
  }

pub accepted_size : (R : Rules) (o : List ℕ) → Accepts R o → (6 ≤ length o) × (length o ≤ 258)
accepted_size R o d =
    let n = octets-length d.0 in
    (omega (arith, ap length d.2, d.1.long), omega (arith, ap length d.2, d.1.short))

pub spoken : (R : Rules) → SoundRules R → Spoken (calls R)
unfolding machine grammar
spoken R S = record {
  grammar = grammar R S;
  accepts = λ o d. (d.1.m, d.1.legal, sym (closed d.1.m) ∙ ap (close 0) d.1.is ∙ d.2);
  words = λ o d. (front d.0, record { m = d.0; legal = d.1; is = refl }, closed d.0 ∙ d.2);
  traced = λ o d. trace-front R d.0;
  size = accepted_size R;
  in_range_start = in_range_start R S;
  in_range_closed = in_range_closed R S;
  within_258 = within_258 R S;
  sized = message_size R;
  refused = refused-number R;
  numbers = numbers_of_lem R;
}

pub spoken_of : (b : Book) → Spoken (language_of b)
spoken_of b = spoken (rules_of b) (sound_rules b)

pub demand3_of : (b : Book) → Demand3 (language_of b)
demand3_of b = demand3 (spoken_of b)

-- an octet that spoils a message names a parameter as its number says
pub spoilt_named : (b : Book) (h : List ℕ) → Octets h → (f : Fault) →
    Spoilt (Accepts (rules_of b)) h f.place
    × Numbered (Accepts (rules_of b)) (language_of b).roles h f.place f.number f.parameter →
    T (named f.number f.parameter)
spoilt_named b h o f d =
    let S = spoken_of b in
    refused-named (rules_of b) f (subst (λ (w : State). T (in_range (rules_of b) w)) (((demand3_of b).refuses h o f).1 d)
    (in_range-run S (start (machine (rules_of b))) h o S.in_range_start))
