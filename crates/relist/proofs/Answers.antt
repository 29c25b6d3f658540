-- What is answered to any text, over the sentences: each answer exactly where they say so; and they allow one outcome.
-- Assumes nothing.
use Rattle.std.proofs.Common.{◌≡◌, ℕ, suc, ◌+◌, ◌<◌, ◌≤◌, T, ◌⊎◌, List, ◌++◌, length, take, drop, sym, refl, ap, ◌∙◌, subst, ap₂, inl, inr, arith, take-append-drop, take_at, drop_at, Result, Ok, Err}
use Rattle.rules.specs.Tests.{◌≤?◌}
use Rattle.rules.proofs.Tests.{decide, le_of, not_le, of_le, pick_yes, pick_not, clash}
use Rattle.rules.specs.Message.{Message, body, octets, Accepts}
use Rattle.rules.proofs.Sizes.{octets-length}
use Rattle.rules.specs.Laying.{laid}
use Rattle.rules.specs.Refusals.{noted}
use Rattle.rules.specs.declared.Fault.{Fault}
use Rattle.writer.specs.Writing.{Writing}
use Rattle.writer.specs.Writing.{sized, unwritten, output_after}
use Rattle.writer.specs.Told.{Told, told, success}
use Rattle.writer.proofs.Told.{unwritten_is, message_is}
use Rattle.relist.specs.Relist.{message_for, relisted, relisting}
use Rattle.relist.specs.Sentences.{Says, SpoiltAt, Returned, Relists}
use Rattle.relist.proofs.Valid.{R, says_message, says_answer}
use Rattle.relist.proofs.Spoilt.{Read, valid, spoilt, reads}
use Rattle.relist.proofs.One.{spoilt_valid, spoilt_one, says_one}
use Rattle.relist.proofs.RoundTrips.{said_accepted}

-- ---- answers told apart
abbrev number_of : Result ℕ Fault → ℕ
number_of (Ok n) = 0
number_of (Err f) = f.number

abbrev value_of : Result ℕ Fault → ℕ
value_of (Ok n) = n
value_of (Err f) = f.place

-- ---- what a valid listing is answered
data Fit (l room : ℕ) : Type 0 where
  over : 256 ≤ l → sized 62 l room ≡ unwritten 62 0 → Fit l room
  short : l ≤ 255 → room < l + 3 → sized 62 l room ≡ unwritten 15 (l + 3) → Fit l room
  fits : l ≤ 255 → l + 3 ≤ room → sized 62 l room ≡ Ok (l + 3) → Fit l room

fit : (l room : ℕ) → Fit l room
unfolding sized
fit l room = go (decide (256 ≤? l)) (decide (suc room ≤? l + 3))
  where
    go : T (256 ≤? l) ⊎ (T (256 ≤? l) → ⊥) → T (suc room ≤? l + 3) ⊎ (T (suc room ≤? l + 3) → ⊥) → Fit l room
    go (inl a) b = over (le_of _ _ a) (pick_yes _ _ _ a)
    go (inr a) (inl b) =
        short (let z = not_le _ _ a in omega arith) (let z = le_of _ _ b in omega arith)
        (pick_not _ _ _ a ∙ pick_yes _ _ _ b)
    go (inr a) (inr b) =
        fits (let z = not_le _ _ a in omega arith) (let z = not_le _ _ b in omega arith)
        (pick_not _ _ _ a ∙ pick_not _ _ _ b)

module _ (t : List ℕ) (room : ℕ) where
  abbrev answer : Result ℕ Fault
  answer = relisted R t room

  -- ---- 61
  to_61 : (k : ℕ) → answer ≡ unwritten 61 k → SpoiltAt R t k
  to_61 k e = go (reads t room)
    where
      no_61 : (m : Message) → Says R m t → Fit (length (body m.parameters)) room → SpoiltAt R t k
      no_61 m s (over h q) = absurd (omega (arith, ap number_of (sym e ∙ says_answer m t s room ∙ q)))
      no_61 m s (short h g q) = absurd (omega (arith, ap number_of (sym e ∙ says_answer m t s room ∙ q)))
      no_61 m s (fits h g q) = absurd (omega (arith, ap number_of (sym e ∙ says_answer m t s room ∙ q)))

      go : Read t room → SpoiltAt R t k
      go (valid m s) = no_61 m s (fit (length (body m.parameters)) room)
      go (spoilt j q s) = subst (SpoiltAt R t) (ap value_of (sym q ∙ e)) s

  pub from_61 : (k : ℕ) → SpoiltAt R t k → answer ≡ unwritten 61 k
  from_61 k s = go (reads t room)
    where
      go : Read t room → answer ≡ unwritten 61 k
      go (valid m v) = absurd (spoilt_valid t k s (m, v))
      go (spoilt j q r) = q ∙ ap (unwritten 61) (spoilt_one t j k r s)

  -- ---- any other answer is a valid listing's
  said : (number_of answer ≡ 61 → ⊥) → (m : Message) × Says R m t
  said n = go (reads t room)
    where
      go : Read t room → (m : Message) × Says R m t
      go (valid m s) = (m, s)
      go (spoilt j q s) = absurd (n (ap number_of q))

  module _ (m : Message) (s : Says R m t) where
    abbrev l : ℕ
    l = length (body m.parameters)

    is_62 : 256 ≤ l → answer ≡ unwritten 62 0
    unfolding sized
    is_62 h = says_answer m t s room ∙ pick_yes _ _ _ (of_le _ _ h)

    is_15 : l ≤ 255 → room < l + 3 → answer ≡ unwritten 15 (l + 3)
    unfolding sized
    is_15 h g =
        says_answer m t s room ∙ pick_not _ _ _ (λ x. let z = le_of _ _ x in omega arith)
        ∙ pick_yes _ _ _ (of_le _ _ (let z : suc room ≤ l + 3 = omega arith in z))

    is_message : l ≤ 255 → l + 3 ≤ room → answer ≡ Ok (l + 3)
    unfolding sized
    is_message h g =
        says_answer m t s room ∙ pick_not _ _ _ (λ x. let z = le_of _ _ x in omega arith)
        ∙ pick_not _ _ _ (λ x. let z = le_of _ _ x in omega arith)

  -- which it is
  to_62 : (p : ℕ) → answer ≡ unwritten 62 p →
      (p ≡ 0) × (m : Message) × Says R m t × (256 ≤ length (body m.parameters))
  to_62 p e = let w = said (λ x. absurd (omega (arith, sym x ∙ ap number_of e))) in go w.0 w.1 (fit _ room)
    where
      go : (m : Message) → Says R m t → Fit (length (body m.parameters)) room →
          (p ≡ 0) × (m : Message) × Says R m t × (256 ≤ length (body m.parameters))
      go m s (over h q) = (ap value_of (sym e ∙ is_62 m s h), m, s, h)
      go m s (short h g q) = absurd (omega (arith, ap number_of (sym e ∙ is_15 m s h g)))
      go m s (fits h g q) = absurd (omega (arith, ap number_of (sym e ∙ is_message m s h g)))

  to_15 : (p : ℕ) → answer ≡ unwritten 15 p →
      (m : Message) × Says R m t × (length (body m.parameters) ≤ 255) × (p ≡ length (octets m)) × (room < p)
  to_15 p e = let w = said (λ x. absurd (omega (arith, sym x ∙ ap number_of e))) in go w.0 w.1 (fit _ room)
    where
      go : (m : Message) → Says R m t → Fit (length (body m.parameters)) room →
          (m : Message) × Says R m t × (length (body m.parameters) ≤ 255) × (p ≡ length (octets m)) × (room < p)
      go m s (over h q) = absurd (omega (arith, ap number_of (sym e ∙ is_62 m s h)))
      go m s (short h g q) =
          let z = ap value_of (sym e ∙ is_15 m s h g) in (m, s, h, z ∙ sym (octets-length m), omega arith)
      go m s (fits h g q) = absurd (omega (arith, ap number_of (sym e ∙ is_message m s h g)))

  to_message : (n : ℕ) → answer ≡ Ok n →
      (m : Message) × Says R m t × (length (body m.parameters) ≤ 255) × (n ≡ length (octets m)) × (n ≤ room)
  to_message n e = let w = said (λ x. absurd (omega (arith, sym x ∙ ap number_of e))) in go w.0 w.1 (fit _ room)
    where
      go : (m : Message) → Says R m t → Fit (length (body m.parameters)) room →
          (m : Message) × Says R m t × (length (body m.parameters) ≤ 255) × (n ≡ length (octets m)) × (n ≤ room)
      go m s (over h q) = absurd (omega (arith, ap number_of (sym e ∙ is_62 m s h)))
      go m s (short h g q) = absurd (omega (arith, ap number_of (sym e ∙ is_15 m s h g)))
      go m s (fits h g q) =
          let z = ap value_of (sym e ∙ is_message m s h g) in (m, s, h, z ∙ sym (octets-length m), omega arith)

  -- which numbers there are
  numbers : 1 ≤ number_of answer → (number_of answer ≡ 61) ⊎ (number_of answer ≡ 62) ⊎ (number_of answer ≡ 15)
  numbers h = go (reads t room)
    where
      of_fit : (m : Message) → Says R m t → Fit (length (body m.parameters)) room →
          (number_of answer ≡ 61) ⊎ (number_of answer ≡ 62) ⊎ (number_of answer ≡ 15)
      of_fit m s (over x q) = inr (inl (ap number_of (is_62 m s x)))
      of_fit m s (short x g q) = inr (inr (ap number_of (is_15 m s x g)))
      of_fit m s (fits x g q) = absurd (omega (arith, h, ap number_of (is_message m s x g)))

      go : Read t room → (number_of answer ≡ 61) ⊎ (number_of answer ≡ 62) ⊎ (number_of answer ≡ 15)
      go (valid m s) = of_fit m s (fit _ room)
      go (spoilt j q s) = inl (ap number_of q)

-- a refusal has one of three numbers, and names no parameter
abbrev pub Refusal : Fault → Type 0
Refusal f = ((f.number ≡ 61) ⊎ (f.number ≡ 62) ⊎ (f.number ≡ 15)) × (f.parameter ≡ 0)

pub refusals : (t : List ℕ) (room : ℕ) (f : Fault) → relisted R t room ≡ Err f → Refusal f
refusals t room f e = go (reads t room)
  where
    is : (k p : ℕ) → relisted R t room ≡ unwritten k p → (k ≡ 61) ⊎ (k ≡ 62) ⊎ (k ≡ 15) → Refusal f
    is k p q n =
        let z : noted k p ≡ f = cc (sym q ∙ e) in subst Refusal z (n, refl)

    of_fit : (m : Message) → Says R m t → Fit (length (body m.parameters)) room → Refusal f
    of_fit m s (over x q) = is 62 0 (is_62 t room m s x) (inr (inl refl))
    of_fit m s (short x g q) = is 15 _ (is_15 t room m s x g) (inr (inr refl))
    of_fit m s (fits x g q) = clash (cc (sym e ∙ is_message t room m s x g))

    go : Read t room → Refusal f
    go (valid m s) = of_fit m s (fit _ room)
    go (spoilt j q s) = is 61 j q (inl refl)

number-told : (w : Result ℕ Fault) → (told w).number ≡ number_of w
unfolding told
number-told (Ok n) = refl
number-told (Err f) = refl

that_size : (w : Result ℕ Fault) (n k : ℕ) → w ≡ Ok k → told w ≡ success n → w ≡ Ok n
unfolding told
that_size w n k q e = q ∙ ap Ok (ap (λ (a : Told). a.size) (sym (ap told q) ∙ e))

no_size : (w : Result ℕ Fault) (n k p : ℕ) → 1 ≤ k → w ≡ unwritten k p → told w ≡ success n → w ≡ Ok n
unfolding told
no_size w n k p h q e = absurd (omega (arith, ap (λ (a : Told). a.number) (sym (ap told q) ∙ e)))

-- with a refusal the output stays
kept : (w : Result ℕ Fault) (o old : List ℕ) → 1 ≤ (told w).number → output_after w o old ≡ old
unfolding told output_after
kept (Ok n) o old h = absurd (omega arith)
kept (Err f) o old h = refl

-- ---- all of it
module _ (t old : List ℕ) where
  abbrev room : ℕ
  room = length old

  abbrev given : Result ℕ Fault
  given = relisted R t room

  abbrev new : List ℕ
  new = output_after given (octets (message_for R t)) old

  -- a size is that of a message
  a_message : (n : ℕ) → told given ≡ success n → given ≡ Ok n
  a_message n e = go (reads t room)
    where
      of_fit : (m : Message) → Says R m t → Fit (length (body m.parameters)) room → given ≡ Ok n
      of_fit m s (over x q) = no_size given n 62 0 (omega arith) (is_62 t room m s x) e
      of_fit m s (short x g q) = no_size given n 15 _ (omega arith) (is_15 t room m s x g) e
      of_fit m s (fits x g q) = that_size given n _ (is_message t room m s x g) e

      go : Read t room → given ≡ Ok n
      go (valid m s) = of_fit m s (fit _ room)
      go (spoilt j q s) = no_size given n 61 j (omega arith) q e

  returned : (m : Message) (n : ℕ) → Says R m t → told given ≡ success n → Returned R old new m n
  unfolding output_after laid
  returned m n s e =
      let g = a_message n e in
      let w = to_message t room n g in
      let d : n ≡ length (octets m) = w.3 ∙ ap (λ (x : Message). length (octets x)) (says_one t w.0 m w.1 s) in
      let l : length (body m.parameters) ≤ 255 =
      subst (λ (x : Message). length (body x.parameters) ≤ 255) (says_one t w.0 m w.1 s) w.2 in
      let q : new ≡ octets m ++ drop (length (octets m)) old =
      ap (λ (w : Result ℕ Fault). output_after w (octets (message_for R t)) old) g
      ∙ ap (λ (x : Message). laid (octets x) old) (says_message m t s) in
      let b : take n new ≡ octets m =
      ap (take n) q ∙ take_at (octets m) (drop (length (octets m)) old) n (sym d) in
      record {
        begins = b;
        accepted = subst (Accepts R) (sym b) (said_accepted t m s l);
        stays = ap (drop n) q ∙ drop_at (octets m) (drop (length (octets m)) old) n (sym d)
            ∙ ap (λ (k : ℕ). drop k old) (sym d);
      }

  pub relists : Relists R t old (relisting R t room) new
  unfolding relisting told
  relists =
      record {
        names = refl;
        sixty_one = λ k. (
          (λ e. to_61 t room k (unwritten_is given 61 k (omega arith) e)),
          (λ s. ap told (from_61 t room k s)),
        );
        sixty_two = λ p. (
          (λ e. to_62 t room p (unwritten_is given 62 p (omega arith) e)),
          (λ x. ap told (is_62 t room x.1 x.2 x.3 ∙ ap (unwritten 62) (sym x.0))),
        );
        fifteen = λ p. (
          (λ e. to_15 t room p (unwritten_is given 15 p (omega arith) e)),
          (λ x. ap told
              (is_15 t room x.0 x.1 x.2 (let z = octets-length x.0 in omega (arith, x.3, x.4))
              ∙ ap (unwritten 15) (sym (octets-length x.0) ∙ sym x.3))),
        );
        message = λ n. (
          (λ e. to_message t room n (a_message n e)),
          (λ x. ap told
              (is_message t room x.0 x.1 x.2 (let z = octets-length x.0 in omega (arith, x.3, x.4))
              ∙ ap Ok (sym (octets-length x.0) ∙ sym x.3))),
        );
        lays = returned;
        numbers = λ h. subst (λ (x : ℕ). (x ≡ 61) ⊎ (x ≡ 62) ⊎ (x ≡ 15)) (sym (number-told given))
            (numbers t room (let z = number-told given in omega (arith, h)));
        keeps = kept given (octets (message_for R t)) old;
      }

-- a message lies within the output
pub message_within : (t : List ℕ) (room : ℕ) (w : Writing) (n : ℕ) → w ≡ relisting R t room → w.answer ≡ Ok n →
    n ≤ room
unfolding relisting
message_within t room w n e m = (to_message t room n (sym (ap (λ (x : Writing). x.answer) e) ∙ m)).4

-- ---- the sentences allow one outcome
module _ (t old : List ℕ) (w : Writing) (out : List ℕ) (r : Relists R t old w out) where
  -- the answer is the one of the definition
  answer_is : w.answer ≡ relisted R t (length old)
  answer_is = go (reads t (length old))
    where
      of_fit : (m : Message) → Says R m t → Fit (length (body m.parameters)) (length old) →
          w.answer ≡ relisted R t (length old)
      of_fit m s (over x q) =
          unwritten_is w.answer 62 0 (omega arith) ((r.sixty_two 0).1 (refl, m, s, x)) ∙ sym (is_62 t _ m s x)
      of_fit m s (short x g q) =
          let z = octets-length m in
          unwritten_is w.answer 15 _ (omega arith) ((r.fifteen _).1 (m, s, x, sym z, omega arith))
          ∙ sym (is_15 t _ m s x g)
      of_fit m s (fits x g q) =
          let z = octets-length m in
          message_is w.answer _ (omega arith) ((r.message _).1 (m, s, x, sym z, g)) ∙ sym (is_message t _ m s x g)

      go : Read t (length old) → w.answer ≡ relisted R t (length old)
      go (valid m s) = of_fit m s (fit _ _)
      go (spoilt k q s) = unwritten_is w.answer 61 k (omega arith) ((r.sixty_one k).1 s) ∙ sym q

module _ (t old : List ℕ) (w w' : Writing) (out out' : List ℕ) (r : Relists R t old w out)
    (r' : Relists R t old w' out')
  where
    answers_one : w.answer ≡ w'.answer
    answers_one = answer_is t old w out r ∙ sym (answer_is t old w' out' r')

    outputs_one : out ≡ out'
    unfolding told
    outputs_one = go (relisted R t (length old)) refl (reads t (length old))
      where
        both_keep : (k p : ℕ) → 1 ≤ k → relisted R t (length old) ≡ unwritten k p → out ≡ out'
        both_keep k p h e =
            let n : (x : Writing) (y : List ℕ) → Relists R t old x y → 1 ≤ (told x.answer).number =
            λ x y z. subst (λ (a : Result ℕ Fault). 1 ≤ (told a).number) (sym (answer_is t old x y z ∙ e)) h in
            r.keeps (n w out r) ∙ sym (r'.keeps (n w' out' r'))

        both_lay : (m : Message) (n : ℕ) → Says R m t → relisted R t (length old) ≡ Ok n → out ≡ out'
        both_lay m n s e =
            let a = r.lays m n s (ap told (answer_is t old w out r ∙ e)) in
            let b = r'.lays m n s (ap told (answer_is t old w' out' r' ∙ e)) in
            sym (take-append-drop n out)
            ∙ ap₂ ◌++◌ (a.begins ∙ sym b.begins) (a.stays ∙ sym b.stays)
            ∙ take-append-drop n out'

        of_fit : (m : Message) → Says R m t → Fit (length (body m.parameters)) (length old) → out ≡ out'
        of_fit m s (over x q) = both_keep 62 0 (omega arith) (is_62 t _ m s x)
        of_fit m s (short x g q) = both_keep 15 _ (omega arith) (is_15 t _ m s x g)
        of_fit m s (fits x g q) = both_lay m _ s (is_message t _ m s x g)

        go : (x : Result ℕ Fault) → x ≡ relisted R t (length old) → Read t (length old) → out ≡ out'
        go x e (valid m s) = of_fit m s (fit _ _)
        go x e (spoilt k q s) = both_keep 61 k (omega arith) q

    pub relists_one : (w ≡ w') × (out ≡ out')
    relists_one = (
      (λ i. record { edition = (r.names ∙ sym r'.names) i; answer = answers_one i }),
      outputs_one,
    )
