-- What a machine's answer says of the octets heard, for any format that has a grammar (demand 3, document 01,
-- Listening). The argument: every octet that the machine takes comes off what may still come, so what may still come
-- after the octets heard is what completes them; it is never empty while the machine waits, and empty once it refuses.
-- Assumes nothing.
use Prim.Native.Nat.{ℕ, suc, ◌+◌, ◌-◌, ◌%◌, ◌≤◌, ◌<◌}
use mathlib.Core.Path.{◌≡◌, refl, sym, ◌∙◌, ap, subst}
use mathlib.Core.Logic.{◌≢◌, ◌↔◌}
use mathlib.Core.List.{List, [], ◌∷◌, ◌++◌, append_assoc, append-nil}
use native.Mathlib.Nat.{zero-add, min-le_left, mod-add-mod, add_assoc, add-zero}
use native.Mathlib.Omega.{arith}
use lib.ListN.{length, length-append, length-take, take, drop, get_or, take-append-drop}
use lib.Seq.{take_at, take-suc, length-take-le, take-length}
use lib.Dec.{T}
use Rattle.rules.specs.Tests.{◌=?◌}
use Rattle.rules.proofs.Tests.{eq_of, of_eq, pick_case, clash}
use Rattle.rules.specs.Octets.{Octets, total, checksum}
use Rattle.rules.proofs.Octets.{checksum_octet, octets_right, octets-take}
use Rattle.rules.specs.Roles.{Role}
use Rattle.rules.specs.Endings.{Ending, Spoilt}
use Rattle.rules.specs.Refusals.{noted}
use Rattle.rules.specs.Machine.{Machine, moved, declined, step, run, start, answer, Waits, place}
use Rattle.rules.specs.declared.Stage.{Stage}
use Rattle.rules.specs.declared.Spot.{Spot}
use Rattle.rules.specs.declared.Fault.{Fault}
use Rattle.rules.specs.declared.State.{State}
use Rattle.rules.specs.declared.State.TheVariants.{Waiting, Message, Refused}

-- octets with their checksum, where the sum before them is σ
unfoldable pub close : ℕ → List ℕ → List ℕ
close σ [] = checksum σ ∷ []
close σ (x ∷ b) = x ∷ close ((σ + x) % 256) b

shift : (σ x n : ℕ) → checksum ((σ + x) % 256 + n) ≡ checksum (σ + (x + n))
unfolding checksum
shift σ x n = ap (λ (k : ℕ). (256 - k) % 256) (mod-add-mod (σ + x) 256 n ∙ ap (λ (k : ℕ). k % 256) (add_assoc σ x n))

pub close-total : (σ : ℕ) (b : List ℕ) → close σ b ≡ b ++ checksum (σ + total b) ∷ []
unfolding close total
close-total σ [] = rw add-zero refl
close-total σ (x ∷ b) =
    ap (λ (l : List ℕ). x ∷ l) (close-total ((σ + x) % 256) b ∙ ap (λ (n : ℕ). b ++ n ∷ []) (shift σ x (total b)))

close_some : (σ : ℕ) (b : List ℕ) → close σ b ≢ []
unfolding close
close_some σ [] q = clash cc
close_some σ (x ∷ b) q = clash cc

close-octets : (σ : ℕ) (b : List ℕ) → Octets b → Octets (close σ b)
unfolding close
close-octets σ [] o = (checksum_octet σ, tt)
close-octets σ (x ∷ b) o = (o.0, close-octets ((σ + x) % 256) b o.1)

-- what listening needs of a format: what may still come at each stage, and how the machine's step takes one octet of
-- it
pub record Grammar (M : Machine) : Type 1 where
  pub Body : Stage → List ℕ → Type 0
  pub octets : (b : List ℕ) → Body M.first b → Octets b
  pub forward : (s : Stage) (x : ℕ) (b : List ℕ) → Body s (x ∷ b) → T (M.fits s x) × Body (M.after s x) b
  pub backward : (s : Stage) (x : ℕ) (b b₀ : List ℕ) → (T (M.final s) → ⊥) → x < 256 → Body s b₀ →
      T (M.fits s x) → Body (M.after s x) b → Body s (x ∷ b)
  pub nil_final : (s : Stage) → Body s [] → T (M.final s)
  pub final_nil : (s : Stage) (b : List ℕ) → T (M.final s) → Body s b → b ≡ []
  pub lives : (s : Stage) (x : ℕ) → (T (M.final s) → ⊥) → x < 256 → (b : List ℕ) × Body s b → T (M.fits s x) →
      (b : List ℕ) × Body (M.after s x) b
  pub some_message : (b : List ℕ) × Body M.first b

-- the role that a machine gives to the octet at a stage, where so many parameters began before it
abbrev pub role_in : Machine → Stage → ℕ → Role
role_in M s n = record { number = M.fault s; parameter = M.stands_in s n }

-- the roles that it gives to some octets, from a stage on
unfoldable pub trace : Machine → ℕ → Stage → List ℕ → List Role
trace M n s [] = []
trace M n s (x ∷ b) = role_in M s n ∷ trace M (M.stands_in s n) (M.after s x) b

nil_right : (a b : List ℕ) → a ++ b ≡ [] → b ≡ []
nil_right [] b e = e
nil_right (x ∷ a) b e = cc

-- ---- the machine alone
module _ (M : Machine) where
  -- the four ways of a step: the checksum seals or spoils the message; another octet is taken or declined
  pub data StepWay (s : Stage) (q : Spot) (x : ℕ) : State → Type 0 where
    seals : T (M.final s) → x ≡ checksum q.sum → StepWay s q x (Message (suc q.place))
    spoils : T (M.final s) → (x ≡ checksum q.sum → ⊥) → StepWay s q x (Refused (noted 6 q.place))
    takes : (T (M.final s) → ⊥) → T (M.fits s x) → StepWay s q x (Waiting (M.after s x) (moved M s q x))
    declines : (T (M.final s) → ⊥) → (T (M.fits s x) → ⊥) → StepWay s q x (declined M s (M.fault s x) q)

  pub stepped : (s : Stage) (q : Spot) (x : ℕ) → StepWay s q x (step M (Waiting s q) x)
  unfolding step
  stepped s q x =
      pick_case (StepWay s q x) (M.final s) _ _
      (λ f. pick_case (StepWay s q x) (x =? checksum q.sum) _ _ (λ e. seals f (eq_of _ _ e))
      (λ e. spoils f (λ k. e (of_eq _ _ k))))
      (λ f. pick_case (StepWay s q x) (M.fits s x) _ _ (takes f) (declines f))

  -- the state reached by octets all of which were needed
  pub data Reach : State → List ℕ → State → Type 0 where
    here : {w : State} → Reach w [] w
    there : {s : Stage} {q : Spot} {x : ℕ} {h : List ℕ} {r : State} → x < 256 →
        Reach (step M (Waiting s q) x) h r → Reach (Waiting s q) (x ∷ h) r

  pub placed : {s : Stage} {q : Spot} {x : ℕ} {r : State} → StepWay s q x r → place r ≡ suc q.place
  placed (seals f k) = refl
  placed (spoils f k) = refl
  placed (takes f k) = refl
  placed (declines f k) = refl

  pub message_stays : (n : ℕ) (h : List ℕ) → run M (Message n) h ≡ Message n
  unfolding run step
  message_stays n [] = refl
  message_stays n (x ∷ h) = message_stays n h

  pub refused_stays : (f : Fault) (h : List ℕ) → run M (Refused f) h ≡ Refused f
  unfolding run step
  refused_stays f [] = refl
  refused_stays f (x ∷ h) = refused_stays f h

  pub run-append : (w : State) (a b : List ℕ) → run M (run M w a) b ≡ run M w (a ++ b)
  unfolding run
  run-append w [] b = refl
  run-append w (x ∷ a) b = run-append (step M w x) a b

  -- the octets are those needed, and others only after a message or a refusal
  pub record Cut (w : State) (h : List ℕ) (r : State) : Type 0 where
    pub a : List ℕ
    pub b : List ℕ
    pub is : a ++ b ≡ h
    pub reach : Reach w a r
    pub whole : Waits r → b ≡ []

  pub cut : (w : State) (h : List ℕ) → Octets h → Cut w h (run M w h)
  unfolding run step
  cut w [] o = record { a = []; b = []; is = refl; reach = here; whole = λ _. refl }
  cut (Waiting s q) (x ∷ h) o =
      let c = cut (step M (Waiting s q) x) h o.1 in
      record {
        a = x ∷ c.a;
        b = c.b;
        is = ap (λ (l : List ℕ). x ∷ l) c.is;
        reach = there o.0 c.reach;
        whole = c.whole;
      }
  cut (Message n) (x ∷ h) o =
      record {
        a = [];
        b = x ∷ h;
        is = refl;
        reach = rw (message_stays n h) here;
        whole = rw (message_stays n h) (λ w. absurd w);
      }
  cut (Refused f) (x ∷ h) o =
      record {
        a = [];
        b = x ∷ h;
        is = refl;
        reach = rw (refused_stays f h) here;
        whole = rw (refused_stays f h) (λ w. absurd w);
      }

  pub reach_run : {w r : State} {h : List ℕ} → Reach w h r → run M w h ≡ r
  unfolding run
  reach_run here = refl
  reach_run (there o q) = reach_run q

  pub reach_place : {w r : State} {h : List ℕ} → Reach w h r → place r ≡ place w + length h
  reach_place here = omega arith
  reach_place (there {s = s} {q = q} {x = x} o c) = omega (arith, reach_place c, placed (stepped s q x))

module _ (M : Machine) (G : Grammar M) where
  abbrev pub Some : Stage → Type 0
  Some s = (b : List ℕ) × G.Body s b

  -- the endings that a state leaves open
  abbrev pub Lang : State → List ℕ → Type 0
  Lang (Waiting s q) e = (b : List ℕ) × G.Body s b × (close q.sum b ≡ e)
  Lang (Message n) e = e ≡ []
  Lang (Refused f) e = ⊥

  -- whole messages with their checksum
  abbrev pub Accepted : List ℕ → Type 0
  Accepted o = Lang (start M) o

  abbrev pub Live : State → Type 0
  Live (Waiting s q) = Some s
  Live (Message n) = Unit {0}
  Live (Refused f) = Unit {0}

  module _ (s : Stage) (q : Spot) (x : ℕ) where
    at_end : T (M.final s) → (e : List ℕ) → Lang (Waiting s q) (x ∷ e) → (x ≡ checksum q.sum) × (e ≡ [])
    unfolding close
    at_end f e d = let n = G.final_nil s d.0 f d.1 in (cc, cc)

    not_end : (T (M.final s) → ⊥) → (e : List ℕ) → Lang (Waiting s q) (x ∷ e) →
        T (M.fits s x) × Lang (Waiting (M.after s x) (moved M s q x)) e
    unfolding close
    not_end f e d = go d.0 d.1 d.2
      where
        go : (b : List ℕ) → G.Body s b → close q.sum b ≡ x ∷ e →
            T (M.fits s x) × Lang (Waiting (M.after s x) (moved M s q x)) e
        go [] d c = absurd (f (G.nil_final s d))
        go (y ∷ b) d c =
            let k : y ≡ x = cc in
            let w = G.forward s x b (rw k at d) in
            (w.0, (b, w.1, cc))

    off : {r : State} (e : List ℕ) → StepWay M s q x r → Lang (Waiting s q) (x ∷ e) → Lang r e
    off e (seals f k) d = (at_end f e d).1
    off e (spoils f k) d = k (at_end f e d).0
    off e (takes f k) d = (not_end f e d).1
    off e (declines f k) d = k (not_end f e d).0

    on : {r : State} (e : List ℕ) → StepWay M s q x r → x < 256 → Some s → Lang r e → Lang (Waiting s q) (x ∷ e)
    unfolding close
    on e (seals f k) o l d = let n = G.final_nil s l.0 f l.1 in (l.0, l.1, cc)
    on e (spoils f k) o l d = absurd d
    on e (takes f k) o l d = (x ∷ d.0, G.backward s x _ _ f o l.1 k d.1, ap (λ (z : List ℕ). x ∷ z) d.2)
    on e (declines f k) o l d = absurd d

  live : {s : Stage} {q : Spot} {x : ℕ} {r : State} → StepWay M s q x r → x < 256 → Some s → Live r
  live (seals f k) o l = tt
  live (spoils f k) o l = tt
  live {s = s} {x = x} (takes f k) o l = G.lives s x f o l k
  live (declines f k) o l = tt

  pub reach_off : {w r : State} {h : List ℕ} (e : List ℕ) → Reach M w h r → Lang w (h ++ e) → Lang r e
  reach_off e here d = d
  reach_off e (there {s = s} {q = q} {x = x} o c) d = reach_off e c (off s q x _ (stepped M s q x) d)

  reach_live : {w r : State} {h : List ℕ} → Reach M w h r → Live w → Live r
  reach_live here l = l
  reach_live (there {s = s} {q = q} {x = x} o c) l = reach_live c (live (stepped M s q x) o l)

  reach_on : {w r : State} {h : List ℕ} (e : List ℕ) → Reach M w h r → Live w → Lang r e → Lang w (h ++ e)
  reach_on e here l d = d
  reach_on e (there {s = s} {q = q} {x = x} o c) l d =
      on s q x _ (stepped M s q x) o l (reach_on e c (live (stepped M s q x) o l) d)

  pub accepted_octets : (o : List ℕ) → Accepted o → Octets o
  accepted_octets o d = subst Octets d.2 (close-octets 0 d.0 (G.octets d.0 d.1))

  -- an accepted message runs on from where the machine stands
  past : (h e : List ℕ) (r : State) (c : Cut M (start M) h r) → Accepted (h ++ e) → Lang r (c.b ++ e)
  past h e r c d = reach_off (c.b ++ e) c.reach (rw (← append_assoc c.a c.b e, c.is) d)

  module _ (h : List ℕ) (o : Octets h) where
    waits_ending : Waits (answer M h) → Ending Accepted h
    waits_ending w = go (answer M h) (cut M (start M) h o) w
      where
        go_on : (s : Stage) (q : Spot) (c : Cut M (start M) h (Waiting s q)) → Waits (Waiting s q) → Some s →
            Ending Accepted h
        go_on s q c w l =
            let i : c.a ≡ h = sym (append-nil c.a) ∙ ap (λ (z : List ℕ). c.a ++ z) (sym (c.whole w)) ∙ c.is in
            let acc : Accepted (h ++ close q.sum l.0) =
            rw i at (reach_on (close q.sum l.0) c.reach G.some_message (l.0, l.1, refl)) in
            record {
              e = close q.sum l.0;
              some = close_some q.sum l.0;
              octets = octets_right h _ (accepted_octets _ acc);
              accepted = acc;
            }

        go : (r : State) → Cut M (start M) h r → Waits r → Ending Accepted h
        go (Waiting s q) c w = go_on s q c w (reach_live c.reach G.some_message)
        go (Message n) c w = absurd w
        go (Refused f) c w = absurd w

    ending_waits : Ending Accepted h → Waits (answer M h)
    ending_waits d = go (answer M h) (cut M (start M) h o)
      where
        go : (r : State) → Cut M (start M) h r → Waits r
        go (Waiting s q) c = tt
        go (Message n) c = d.some (nil_right c.b d.e (past h d.e (Message n) c d.accepted))
        go (Refused f) c = past h d.e (Refused f) c d.accepted

    -- it waits exactly while the octets have an ending
    pub waits_iff : Waits (answer M h) ↔ Ending Accepted h
    waits_iff = (waits_ending, ending_waits)

    pub taken : {r : State} (c : Cut M (start M) h r) → take (place r) h ≡ c.a
    taken c = rw (← c.is) (take_at c.a c.b _ (sym (reach_place M c.reach ∙ zero-add _)))

    pub long : {r : State} (c : Cut M (start M) h r) → place r ≤ length h
    long c = omega (arith, reach_place M c.reach, length-append c.a c.b, ap length c.is)

    message_accepted : (n : ℕ) → answer M h ≡ Message n → (n ≤ length h) × Accepted (take n h)
    message_accepted n e =
        let c : Cut M (start M) h (Message n) = rw e at (cut M (start M) h o) in
        (long c, rw (taken c, ← append-nil c.a) (reach_on [] c.reach G.some_message refl))

    no_way : (f : Fault) → answer M h ≡ Refused f → (e : List ℕ) → Accepted (take (suc f.place) h ++ e) → ⊥
    no_way f q e d =
        let c : Cut M (start M) h (Refused f) = rw q at (cut M (start M) h o) in
        reach_off e c.reach (rw (taken c) at d)

  module _ (h : List ℕ) (o : Octets h) where
    pub again : (n : ℕ) → answer M h ≡ run M (answer M (take n h)) (drop n h)
    again n = ap (run M (start M)) (sym (take-append-drop n h)) ∙ sym (run-append M (start M) (take n h) (drop n h))

    accepted_message : (n : ℕ) → n ≤ length h → Accepted (take n h) → answer M h ≡ Message n
    accepted_message n l d =
        let c = cut M (start M) (take n h) (octets-take n h o) in
        go (answer M (take n h)) c refl (past (take n h) [] _ c (rw append-nil d))
      where
        t : length (take n h) ≡ n
        t = length-take-le n h l

        go : (r : State) (c : Cut M (start M) (take n h) r) → answer M (take n h) ≡ r → Lang r (c.b ++ []) →
            answer M h ≡ Message n
        go (Waiting s q) c z u = absurd (close_some q.sum u.0 (u.2 ∙ append-nil c.b ∙ c.whole tt))
        go (Message m) c z u =
            let m_is : m ≡ n =
            omega (
              arith,
              t,
              reach_place M c.reach,
              length-append c.a c.b,
              ap length c.is,
              ap length (sym (append-nil c.b) ∙ u),
            ) in
            again n ∙ ap (λ (w : State). run M w (drop n h)) z ∙ message_stays M m (drop n h) ∙ ap Message m_is
        go (Refused f) c z u = absurd u

    -- it has a message exactly where the first octets are one
    pub message_iff : (n : ℕ) → (answer M h ≡ Message n) ↔ ((n ≤ length h) × Accepted (take n h))
    message_iff n = (message_accepted h o n, λ d. accepted_message n d.0 d.1)

    pub waits_before : (f : Fault) → answer M h ≡ Refused f → Waits (answer M (take f.place h))
    waits_before f e =
        go (answer M (take f.place h)) (cut M (start M) (take f.place h) (octets-take f.place h o)) refl
      where
        go : (r : State) (c : Cut M (start M) (take f.place h) r) → answer M (take f.place h) ≡ r → Waits r
        go (Waiting s q) c z = tt
        go (Message m) c z =
            let y : ◌≡◌ {A = ℕ} 0 1 = cc (again f.place, message_stays M m (drop f.place h)) in
            omega arith
        go (Refused g) c z =
            let y : Refused f ≡ Refused g = cc (again f.place, refused_stays M g (drop f.place h)) in
            let p : suc f.place ≡ suc g.place = ap place y in
            omega (
              arith,
              reach_place M c.reach,
              length-append c.a c.b,
              ap length c.is,
              length-take
                  f.place h,
              min-le_left f.place (length h),
            )

    refused_spoilt : (f : Fault) → answer M h ≡ Refused f → Spoilt Accepted h f.place
    refused_spoilt f e = record {
      place = long h o (rw e at (cut M (start M) h o));
      before = (waits_iff (take f.place h) (octets-take f.place h o)).0 (waits_before f e);
      none = λ d. no_way h o f e [] (rw append-nil d);
      hopeless = λ d. no_way h o f e d.e d.accepted;
    }

    abbrev pub RefusedAt : ℕ → Type 0
    RefusedAt p = (f : Fault) × (answer M h ≡ Refused f) × (f.place ≡ p)

    spoilt_refused : (p : ℕ) → Spoilt Accepted h p → RefusedAt p
    unfolding run
    spoilt_refused p d =
        outer (answer M (take p h)) (cut M (start M) (take p h) (octets-take p h o)) refl
        ((waits_iff (take p h) (octets-take p h o)).1 d.before)
      where
        H : List ℕ
        H = take (suc p) h

        o_h : Octets H
        o_h = octets-take (suc p) h o

        l_h : length H ≡ suc p
        l_h = length-take-le (suc p) h d.place

        inner : (r : State) → place r ≡ suc p → answer M H ≡ r → RefusedAt p
        inner (Waiting s q) l e = absurd (d.hopeless ((waits_iff H o_h).0 (rw e tt)))
        inner (Message n) l e =
            absurd (d.none (subst (λ (z : List ℕ). Accepted z) (whole n l) (message_accepted H o_h n e).1))
          where
            whole : (n : ℕ) → n ≡ suc p → take n H ≡ H
            whole n l = ap (λ (j : ℕ). take j H) (l ∙ sym l_h) ∙ take-length H
        inner (Refused f) l e = (
          f,
          again (suc p) ∙ ap (λ (w : State). run M w (drop (suc p) h)) e
              ∙ refused_stays M f (drop (suc p) h),
          omega arith,
        )

        outer : (r : State) → Cut M (start M) (take p h) r → answer M (take p h) ≡ r → Waits r → RefusedAt p
        outer (Waiting s q) c e w =
            let a : c.a ≡ take p h =
            sym (append-nil c.a) ∙ ap (λ (z : List ℕ). c.a ++ z) (sym (c.whole w)) ∙ c.is in
            let n : q.place ≡ p =
            reach_place M c.reach ∙ zero-add _ ∙ ap length a ∙ length-take-le p h (omega (arith, d.place)) in
            let v : answer M H ≡ step M (Waiting s q) (get_or h p 0) =
            ap (run M (start M)) (take-suc h p 0 d.place)
            ∙ sym (run-append M (start M) (take p h) (get_or h p 0 ∷ []))
            ∙ ap (λ (z : State). run M z (get_or h p 0 ∷ [])) e in
            inner (step M (Waiting s q) (get_or h p 0)) (placed M (stepped M s q (get_or h p 0)) ∙ ap suc n) v
        outer (Message n) c e w = absurd w
        outer (Refused f) c e w = absurd w

    -- it refuses exactly at the octet that spoils them
    pub refused_iff : (p : ℕ) → RefusedAt p ↔ Spoilt Accepted h p
    refused_iff p = (λ d. subst (Spoilt Accepted h) d.2 (refused_spoilt d.0 d.1), spoilt_refused p)
