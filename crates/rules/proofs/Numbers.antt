-- Number and parameter of a refusal are what the role of the refused octet gives for it, in every message that the
-- octets before it begin; for any grammar. The argument: the roles of a message's octets are the machine's faults
-- along them, and the machine stands, after the octets before, at the stage and in the parameter whose role comes
-- next.
-- Assumes nothing.
use Prim.Native.Nat.{ℕ, zero, suc, ◌<◌}
use mathlib.Core.Path.{◌≡◌, refl, sym, ◌∙◌, ap, subst}
use mathlib.Core.List.{List, [], ◌∷◌, ◌++◌, append-nil}
use native.Mathlib.Omega.{arith}
use lib.ListN.{length, take, get_or}
use lib.Seq.{take-suc, length-take-le}
use lib.Dec.{T}
use Rattle.rules.specs.Tests.{pick}
use Rattle.rules.proofs.Tests.{pick_yes, pick_not, clash}
use Rattle.rules.specs.Octets.{Octets}
use Rattle.rules.proofs.Octets.{octets-take}
use Rattle.rules.specs.Roles.{Role, always, role_at}
use Rattle.rules.specs.Machine.{Machine, moved, step, run, start, answer, Waits}
use Rattle.rules.proofs.Listening.{close, role_in, trace, Grammar, StepWay, seals, spoils, takes, declines, stepped, Reach, here, there, reach_run, Cut, cut, taken, long, run-append, waits_before}
use Rattle.rules.specs.declared.Stage.{Stage}
use Rattle.rules.specs.declared.Spot.{Spot}
use Rattle.rules.specs.declared.Fault.{Fault}
use Rattle.rules.specs.declared.State.{State}
use Rattle.rules.specs.declared.State.TheVariants.{Waiting, Message, Refused}

drop_roles : ℕ → List Role → List Role
drop_roles zero rs = rs
drop_roles (suc n) [] = []
drop_roles (suc n) (r ∷ rs) = drop_roles n rs

at_drop : (n : ℕ) (rs : List Role) → role_at (drop_roles n rs) 0 ≡ role_at rs n
unfolding drop_roles role_at
at_drop zero rs = refl
at_drop (suc n) [] = refl
at_drop (suc n) (r ∷ rs) = at_drop n rs

tail : List Role → List Role
tail [] = []
tail (r ∷ rs) = rs

drop_tail : (n : ℕ) (rs : List Role) → drop_roles n (tail rs) ≡ drop_roles (suc n) rs
unfolding tail drop_roles
drop_tail zero [] = refl
drop_tail (suc n) [] = refl
drop_tail n (r ∷ rs) = refl

module _ (M : Machine) where
  -- the role of the octet that comes at a stage, where so many parameters began before it
  unfoldable pub role : Stage → ℕ → Role
  role s n = pick (M.final s) (always 6 0) (role_in M s n)

  at_final : (s : Stage) (n : ℕ) → T (M.final s) → role s n ≡ always 6 0
  unfolding role
  at_final s n t = pick_yes _ _ _ t

  at_other : (s : Stage) (n : ℕ) → (T (M.final s) → ⊥) → role s n ≡ role_in M s n
  unfolding role
  at_other s n t = pick_not _ _ _ t

  refused-role : {s : Stage} {q : Spot} {x : ℕ} {f : Fault} → StepWay M s q x (Refused f) →
      ((role s q.parameter).number x ≡ f.number) × ((role s q.parameter).parameter ≡ f.parameter)
  refused-role {s} {q} {x = x} (spoils f k) =
      let e = at_final s q.parameter f in
      (ap (λ (r : Role). r.number x) e, ap (λ (r : Role). r.parameter) e)
  refused-role {s} {q} {x = x} (declines f k) =
      let e = at_other s q.parameter f in
      (ap (λ (r : Role). r.number x) e, ap (λ (r : Role). r.parameter) e)

module _ (M : Machine) (G : Grammar M) where
  -- what is still to come, with its roles
  abbrev Roled : State → List ℕ → List Role → Type 0
  Roled (Waiting s q) e ρ =
      (b : List ℕ) × G.Body s b × (close q.sum b ≡ e) × (trace M q.parameter s b ++ always 6 0 ∷ [] ≡ ρ)
  Roled (Message n) e ρ = Unit {0}
  Roled (Refused f) e ρ = Unit {0}

  roled : {s : Stage} {q : Spot} {x : ℕ} {r : State} (e : List ℕ) (ρ : List Role) → StepWay M s q x r →
      Roled (Waiting s q) (x ∷ e) ρ → Roled r e (tail ρ)
  unfolding close trace tail
  roled e ρ (seals f k) d = tt
  roled e ρ (spoils f k) d = tt
  roled {s} {q} {x} e ρ (takes f k) d = go d.0 d.1 d.2 d.3
    where
      go : (b : List ℕ) → G.Body s b → close q.sum b ≡ x ∷ e →
          trace M q.parameter s b ++ always 6 0 ∷ [] ≡ ρ →
          Roled (Waiting (M.after s x) (moved M s q x)) e (tail ρ)
      go [] d c z = absurd (f (G.nil_final s d))
      go (y ∷ b) d c z =
          let k : y ≡ x = cc in
          (b, (G.forward s x b (rw k at d)).1, cc, rw k at (ap tail z))
  roled e ρ (declines f k) d = tt

  reach_roled : {w r : State} {a : List ℕ} (e : List ℕ) (ρ : List Role) → Reach M w a r → Roled w (a ++ e) ρ →
      Roled r e (drop_roles (length a) ρ)
  unfolding drop_roles
  reach_roled e ρ here d = d
  reach_roled e ρ (there {s = s} {q = q} {x = x} {h = h} o c) d =
      rw (← drop_tail (length h) ρ) (reach_roled e (tail ρ) c (roled _ ρ (stepped M s q x) d))

  head_role : (s : Stage) (q : Spot) (e : List ℕ) (ρ : List Role) → Roled (Waiting s q) e ρ →
      role_at ρ 0 ≡ role M s q.parameter
  unfolding trace role_at
  head_role s q e ρ d = go d.0 d.1 d.3
    where
      go : (b : List ℕ) → G.Body s b → trace M q.parameter s b ++ always 6 0 ∷ [] ≡ ρ →
          role_at ρ 0 ≡ role M s q.parameter
      go [] d z = sym (ap (λ (l : List Role). role_at l 0) z) ∙ sym (at_final M s q.parameter (G.nil_final s d))
      go (x ∷ b) d z =
          sym (ap (λ (l : List Role). role_at l 0) z)
          ∙ sym (at_other M s q.parameter (λ f. clash (cc (G.final_nil s (x ∷ b) f d))))

  module _ (h : List ℕ) (o : Octets h) (f : Fault) (z : answer M h ≡ Refused f) where
    c : Cut M (start M) h (Refused f)
    c = rw z at (cut M (start M) h o)

    short : f.place < length h
    short = long M G h o c

    -- the octet refused, judged where the octets before it lead
    judged : (s : Stage) (q : Spot) → answer M (take f.place h) ≡ Waiting s q →
        step M (Waiting s q) (get_or h f.place 0) ≡ Refused f
    unfolding run
    judged s q e =
        let u : answer M (take (suc f.place) h) ≡ Refused f = rw (taken M G h o c) (reach_run M c.reach) in
        let v : answer M (take f.place h ++ (get_or h f.place 0 ∷ [])) ≡ Refused f =
        rw (take-suc h f.place 0 short) at u in
        let w : run M (answer M (take f.place h)) (get_or h f.place 0 ∷ []) ≡ Refused f =
        run-append M (start M) (take f.place h) (get_or h f.place 0 ∷ []) ∙ v in
        rw e at w

    -- what the role at its place, among those of a word, gives for it
    abbrev Named : List ℕ → Type 0
    Named b =
        ((role_at (trace M 0 M.first b ++ always 6 0 ∷ []) f.place).number (get_or h f.place 0) ≡ f.number)
        × ((role_at (trace M 0 M.first b ++ always 6 0 ∷ []) f.place).parameter ≡ f.parameter)

    pub number : (b : List ℕ) → G.Body M.first b → (e : List ℕ) → close 0 b ≡ take f.place h ++ e → Named b
    number b d e i =
        go (answer M (take f.place h)) (waits_before M G h o f z)
        (cut M (start M) (take f.place h) (octets-take f.place h o)) refl
      where
        go : (r : State) → Waits r → Cut M (start M) (take f.place h) r → answer M (take f.place h) ≡ r →
            Named b
        go (Waiting s q) w g u =
            let a : g.a ≡ take f.place h =
            sym (append-nil g.a) ∙ ap (λ (y : List ℕ). g.a ++ y) (sym (g.whole w)) ∙ g.is in
            let n : length g.a ≡ f.place = ap length a ∙ length-take-le f.place h (omega (arith, short)) in
            let ρ = trace M 0 M.first b ++ always 6 0 ∷ [] in
            let y : Roled (Waiting s q) e (drop_roles (length g.a) ρ) =
            reach_roled e ρ g.reach (b, d, i ∙ ap (λ (y : List ℕ). y ++ e) (sym a), refl) in
            let j : role_at ρ f.place ≡ role M s q.parameter =
            ap (role_at ρ) (sym n) ∙ sym (at_drop (length g.a) ρ) ∙ head_role s q e _ y in
            let k =
            refused-role M (subst (StepWay M s q (get_or h f.place 0)) (judged s q u)
            (stepped M s q (get_or h f.place 0))) in
            (ap (λ (r : Role). r.number (get_or h f.place 0)) j ∙ k.0, ap (λ (r : Role). r.parameter) j ∙ k.1)
        go (Message m) w _ u = absurd w
        go (Refused _) w _ u = absurd w
