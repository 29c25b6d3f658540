-- Demand 3 of any language, with no hypothesis but octets below 256.
-- The argument: the messages of a language are the words of its machine's grammar, so what Listening says of words
-- it says of messages; and number and parameter of a refusal are those of its role in any one of them, by Numbers.
-- Assumes nothing.
use Prim.Native.Nat.{ℕ, ◌≤◌, ◌<◌}
use mathlib.Core.Path.{◌≡◌, refl, sym, ◌∙◌, ap, subst}
use mathlib.Core.Logic.{◌≢◌, ◌↔◌}
use mathlib.Core.List.{List, [], ◌∷◌, ◌++◌}
use native.Mathlib.Omega.{arith}
use lib.ListN.{length, length-append, take, get_or}
use Rattle.rules.specs.Octets.{Octets}
use Rattle.rules.specs.Roles.{Role, role_at}
use Rattle.rules.specs.Endings.{Ending, Spoilt, Numbered}
use Rattle.rules.proofs.Endings.{ending_to, spoilt_to}
use Rattle.rules.specs.Machine.{Machine, answer, Waits}
use Rattle.rules.proofs.Listening.{waits_iff, message_iff, refused_iff, message_stays, refused_stays, run-append}
use Rattle.rules.proofs.Numbers.{number}
use Rattle.rules.specs.Language.{Language}
use Rattle.rules.proofs.Language.{Spoken}
use Rattle.rules.specs.Demand3.{Demand3}
use Rattle.rules.specs.declared.State.TheVariants.{Message, Refused}
use Rattle.rules.specs.declared.Fault.{Fault}

module _ {L : Language} (S : Spoken L) where
  abbrev M : Machine
  M = L.machine

  module _ (h : List ℕ) (o : Octets h) where
    waits : Waits (answer M h) ↔ Ending L.Accepts h
    waits =
        let d = waits_iff M S.grammar h o in
        (λ w. ending_to S.accepts h (d.0 w), λ e. d.1 (ending_to S.words h e))

    has_message : (n : ℕ) → (answer M h ≡ Message n) ↔ ((n ≤ length h) × L.Accepts (take n h))
    has_message n =
        let d = message_iff M S.grammar h o n in
        (λ e. let a = d.0 e in (a.0, S.accepts _ a.1), λ e. d.1 (e.0, S.words _ e.1))

    numbered : (f : Fault) → answer M h ≡ Refused f →
        Numbered L.Accepts L.roles h f.place f.number f.parameter
    numbered f q e a =
        let w = S.words _ a in
        let r = number M S.grammar h o f q w.0 w.1 e w.2 in (
          ap (λ (ρ : List Role). (role_at ρ f.place).number (get_or h f.place 0)) (sym (S.traced _ a)) ∙ r.0,
          ap (λ (ρ : List Role). (role_at ρ f.place).parameter) (sym (S.traced _ a)) ∙ r.1,
        )

    -- the place is that of a refusal, whose number and parameter are the same
    refused : (f : Fault) → Spoilt L.Accepts h f.place →
        Numbered L.Accepts L.roles h f.place f.number f.parameter → answer M h ≡ Refused f
    refused f s n =
        let d = (refused_iff M S.grammar h o f.place).1 (spoilt_to S.words S.accepts h f.place s) in
        let z = subst (λ (p : ℕ). Numbered L.Accepts L.roles h p d.0.number d.0.parameter) d.2
        (numbered d.0 d.1) s.before.e s.before.accepted in
        let g = n s.before.e s.before.accepted in
        let k : d.0.number ≡ f.number = sym z.0 ∙ g.0 in
        let b : d.0.parameter ≡ f.parameter = sym z.1 ∙ g.1 in
        d.1 ∙ (λ i. Refused (record { number = k i; place = d.2 i; parameter = b i }))

    refuses : (f : Fault) →
        (answer M h ≡ Refused f) ↔
        (Spoilt L.Accepts h f.place
        × Numbered L.Accepts L.roles h f.place f.number f.parameter)
    refuses f = (
      λ e. (
        spoilt_to S.accepts S.words h f.place
            ((refused_iff M S.grammar h o f.place).0 (f, e, refl)),
        numbered f e,
      ),
      λ d. refused f d.0 d.1,
    )

    answers : Waits (answer M h) → length h < 258
    answers w = go (waits.0 w)
      where
        by : (e : List ℕ) → e ≢ [] → length (h ++ e) ≤ 258 → length h < 258
        by [] n l = absurd (n refl)
        by (x ∷ e) n l = omega (arith, length-append h (x ∷ e))

        go : Ending L.Accepts h → length h < 258
        go e = by e.e e.some (S.size _ e.accepted).1

  pub demand3 : Demand3 L
  demand3 = record {
    waits = waits;
    has_message = has_message;
    refuses = refuses;
    message_stays = message_stays M;
    refusal_stays = refused_stays M;
    cut_anywhere = λ w a b. sym (run-append M w a b);
    answers_by_258 = answers;
  }
