-- How a search for what counts goes on, and that it finds what the rules count: of an accepted message the part found
-- holds the contents that count.
-- Assumes nothing.
use Rattle.std.proofs.Common.{◌≡◌, ℕ, zero, suc, ◌+◌, ◌-◌, ◌<◌, ◌≤◌, Bool, true, false, List, [], ◌∷◌, ◌++◌, length, get_or, take, drop, sym, refl, ap, ◌∙◌, append_assoc, add-zero, arith, length-append, length-drop, get_or-drop, drop-drop, Option, Some, None}
use mathlib.Core.Option.{Option as Maybe, none, some}
use lib.Seq.{take-append_seam, drop-append_seam}
use Rattle.rules.specs.Tests.{◌=?◌, pick}
use Rattle.rules.proofs.Tests.{pick_yes, pick_not, picked_by, of_eq, eq_of, of_le, le_of, clash}
use Rattle.rules.specs.Octets.{total, checksum}
use Rattle.rules.specs.Table.{Rules, listed, rival_of}
use Rattle.rules.specs.Message as message
use Rattle.rules.specs.Message.{body, front, octets}
use Rattle.rules.specs.Counting.{first_of, counted}
use Rattle.message.specs.declared.Found.{Found}
use Rattle.message.specs.declared.Part.{Part}
use Rattle.message.specs.Parts.{found_at, part_at, parameter_at, matched, search_from, counted_at, part_of}

-- ---- for the loop
module _ (turns t u : ℕ) (o : List ℕ) (at : ℕ) where
  pub no_turns : turns ≤ 0 → search_from turns t u o at ≡ None
  unfolding search_from
  no_turns h = let z : turns ≡ 0 = omega arith in rw z

  turned : 0 < turns → search_from turns t u o at ≡ matched t u (parameter_at o at) (search_from (turns - 1) t u o)
  unfolding search_from
  turned h = let z : turns ≡ suc (turns - 1) = omega arith in ap (λ (n : ℕ). search_from n t u o at) z

  pub none_here : 0 < turns → (f : Option Found) → f ≡ parameter_at o at → f ≡ None → search_from turns t u o at ≡ None
  unfolding matched
  none_here h f e n = turned h ∙ ap (λ (x : Option Found). matched t u x (search_from (turns - 1) t u o)) (sym e ∙ n)

  module _ (h : 0 < turns) (f : Option Found) (e : f ≡ parameter_at o at) (k start n : ℕ) (p : f ≡ found_at k start n) where
    here : search_from turns t u o at ≡
        pick (k =? t) (part_at start n) (pick (k =? u) None (search_from (turns - 1) t u o (start + n)))
    unfolding matched
    here = turned h ∙ ap (λ (x : Option Found). matched t u x (search_from (turns - 1) t u o)) (sym e ∙ p)

    pub wanted : k ≡ t → search_from turns t u o at ≡ part_at start n
    wanted d = here ∙ pick_yes _ _ _ (of_eq _ _ d)

    pub shut_out : (k ≡ t → ⊥) → k ≡ u → search_from turns t u o at ≡ None
    shut_out a d = here ∙ pick_not _ _ _ (λ x. a (eq_of _ _ x)) ∙ pick_yes _ _ _ (of_eq _ _ d)

    pub next : (k ≡ t → ⊥) → (k ≡ u → ⊥) → search_from turns t u o at ≡ search_from (turns - 1) t u o (start + n)
    next a b = here ∙ pick_not _ _ _ (λ x. a (eq_of _ _ x)) ∙ pick_not _ _ _ (λ x. b (eq_of _ _ x))

found_of : (f g : Found) → Some f ≡ Some g → f ≡ g
found_of f g e = cc

-- ---- what is found lies within the octets
pub found_inside : (o : List ℕ) (at : ℕ) (f : Option Found) (k start n : ℕ) → f ≡ parameter_at o at →
    f ≡ found_at k start n → start + n < length o
unfolding parameter_at
found_inside o at f k start n e p =
    picked_by (start + n < length o) _ _ _ _ (sym e ∙ p)
    (λ _ d. picked_by (start + n < length o) _ _ _ _ d
    (λ t x. let q = found_of _ _ x in
    omega (arith, le_of _ _ t, ap (λ (x : Found). x.start) q, ap (λ (x : Found). x.length) q))
    (λ _ x. clash cc))
    (λ _ d. clash cc)

-- contents stand behind type and length
pub found_behind : (o : List ℕ) (at : ℕ) (k start n : ℕ) → found_at k start n ≡ parameter_at o at → at + 2 ≡ start
unfolding parameter_at
found_behind o at k start n e =
    picked_by (at + 2 ≡ start) _ _ _ _ (sym e)
    (λ _ d. picked_by (at + 2 ≡ start) _ _ _ _ d (λ _ x. ap (λ (x : Found). x.start) (found_of _ _ x)) (λ _ x. clash cc))
    (λ _ d. clash cc)

-- ---- the search on the octets of a message finds what the rules count
module _ (o : List ℕ) (c : ℕ) where
  -- from the place where the parameters ps and then the checksum stand
  abbrev pub Stand : ℕ → List message.Parameter → Type 0
  Stand at ps = drop at o ≡ body ps ++ c ∷ []

  part-pick : (b : Bool) (x y : Option Part) → part_of o (pick b x y) ≡ pick b (part_of o x) (part_of o y)
  unfolding pick
  part-pick true x y = refl
  part-pick false x y = refl

  room_of : (at : ℕ) (b : List ℕ) → drop at o ≡ b → 0 < length b → at + length b ≡ length o
  room_of at b e h = omega (arith, ap length e, length-drop at o)

  pub at_end : (at : ℕ) → Stand at [] → parameter_at o at ≡ None
  unfolding parameter_at body
  at_end at e = pick_not _ _ _ (λ t. omega (arith, le_of _ _ t, room_of at _ e (omega arith)))

  module _ (at : ℕ) (p : message.Parameter) (ps : List message.Parameter) (e : Stand at (p ∷ ps)) where
    whole : at + (2 + length p.contents + length (body ps) + 1) ≡ length o
    unfolding body
    whole =
        let n = length-append (p.contents ++ body ps) (c ∷ []) in
        let m = length-append p.contents (body ps) in
        omega (arith, room_of at _ e (omega arith))

    kind_is : get_or o at 0 ≡ p.kind
    unfolding body
    kind_is = sym (get_or-drop at o 0 0 ∙ ap (λ (n : ℕ). get_or o n 0) (add-zero at)) ∙ ap (λ (l : List ℕ). get_or l 0 0) e

    length_is : get_or o (at + 1) 0 ≡ length p.contents
    unfolding body
    length_is = sym (get_or-drop at o 1 0) ∙ ap (λ (l : List ℕ). get_or l 1 0) e

    pub found_is : parameter_at o at ≡ found_at p.kind (at + 2) (length p.contents)
    unfolding parameter_at
    found_is =
        pick_yes _ _ _ (of_le _ _ (omega (arith, whole)))
        ∙ pick_yes _ _ _ (of_le _ _ (omega (arith, whole, length_is)))
        ∙ (λ i. found_at (kind_is i) (at + 2) (length_is i))

    behind : drop (at + 2) o ≡ p.contents ++ (body ps ++ c ∷ [])
    unfolding body
    behind = sym (drop-drop 2 at o) ∙ ap (drop 2) e ∙ append_assoc p.contents (body ps) (c ∷ [])

    pub contents_are : take (length p.contents) (drop (at + 2) o) ≡ p.contents
    contents_are = rw behind (take-append_seam p.contents (body ps ++ c ∷ []))

    pub on : Stand (at + 2 + length p.contents) ps
    on =
        sym (drop-drop (length p.contents) (at + 2) o) ∙ ap (drop (length p.contents)) behind
        ∙ drop-append_seam p.contents (body ps ++ c ∷ [])

  search_counts : (turns t u at : ℕ) (ps : List message.Parameter) → Stand at ps → length ps ≤ turns →
      part_of o (search_from turns t u o at) ≡ first_of t u ps
  unfolding search_from matched part_of first_of
  search_counts zero t u at [] e h = refl
  search_counts zero t u at (p ∷ ps) e h = absurd (omega arith)
  search_counts (suc turns) t u at [] e h =
      ap (λ (f : Option Found). part_of o (matched t u f (search_from turns t u o))) (at_end at e)
  search_counts (suc turns) t u at (p ∷ ps) e h =
      ap (λ (f : Option Found). part_of o (matched t u f (search_from turns t u o))) (found_is at p ps e)
      ∙ part-pick (p.kind =? t) (part_at (at + 2) (length p.contents)) _
      ∙ ap (λ (x : Maybe (List ℕ)). pick (p.kind =? t) x
      (part_of o (pick (p.kind =? u) None (search_from turns t u o (at + 2 + length p.contents)))))
      (ap some (contents_are at p ps e))
      ∙ ap (pick (p.kind =? t) (some p.contents))
      (part-pick (p.kind =? u) None _
      ∙ ap (pick (p.kind =? u) none) (search_counts turns t u (at + 2 + length p.contents) ps (on at p ps e)
      (omega arith)))

nowhere : (o : List ℕ) (b : Bool) (x : Maybe (List ℕ)) → pick b x (part_of o None) ≡ pick b x none
unfolding part_of
nowhere o b x = refl

-- each parameter has at least two octets
pub enough : (ps : List message.Parameter) → length ps ≤ length (body ps)
unfolding body
enough [] = omega arith
enough (p ∷ ps) = omega (arith, enough ps, length-append p.contents (body ps))

-- of a message's octets the part found holds the contents that count, and there is one exactly where some count
pub counted_part : (R : Rules) (m : message.Message) (t : ℕ) →
    part_of (octets m) (counted_at R (octets m) t) ≡ counted R m t
unfolding counted_at counted octets
counted_part R m t =
    let c = checksum (total (front m)) in
    let n = length-append (body m.parameters) (c ∷ []) in
    part-pick (octets m) c (listed R t) _ None
    ∙ ap (λ (x : Maybe (List ℕ)). pick (listed R t) x (part_of (octets m) None))
    (search_counts (octets m) c (length (octets m)) t (rival_of R t) 2 m.parameters refl
    (omega (arith, enough m.parameters)))
    ∙ nowhere (octets m) (listed R t) _
