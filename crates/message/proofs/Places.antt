-- The search finds the contents that count at their place: it passes over the parameters before them, none of which is
-- of the type or its rival. Of any octets, what it finds lies inside.
-- Assumes nothing.
use Rattle.std.proofs.Common.{◌≡◌, ℕ, zero, suc, ◌+◌, ◌-◌, ◌<◌, List, [], ◌∷◌, ◌++◌, length, sym, refl, ap, ◌∙◌, arith, length-append, Option, Some, None}
use mathlib.Core.Option.{none}
use Rattle.rules.proofs.Tests.{pick_yes, picked_by, clash}
use Rattle.rules.specs.Octets.{total, checksum}
use Rattle.rules.specs.Table.{Rules, rival_of}
use Rattle.rules.specs.Message as message
use Rattle.rules.specs.Message.{body, front, octets}
use Rattle.rules.specs.Counting.{NoneOf, Counts}
use Rattle.message.specs.declared.Found.{Found}
use Rattle.message.specs.declared.Part.{Part}
use Rattle.message.specs.Places.{contents_at}
use Rattle.message.specs.Parts.{part_at, parameter_at, matched, search_from, counted_at, part_of}
use Rattle.message.proofs.Searching.{Stand, wanted, next, found_is, on, enough, found_inside}

search_at : (o : List ℕ) (c t u : ℕ) (p : message.Parameter) (a : List message.Parameter) → p.kind ≡ t →
    (b : List message.Parameter) → NoneOf t u b → (turns at : ℕ) → length b < turns → Stand o c at (b ++ p ∷ a) →
    search_from turns t u o at ≡ part_at (at + length (body b) + 2) (length p.contents)
unfolding body
search_at o c t u p a k [] n turns at h e =
    let z : at + 2 ≡ at + 0 + 2 = omega arith in
    wanted turns t u o at (omega arith) _ refl _ _ _ (found_is o c at p a e) k
    ∙ ap (λ (i : ℕ). part_at i (length p.contents)) z
search_at o c t u p a k (q ∷ b) n turns at h e =
    let z : at + 2 + length q.contents + length (body b) + 2 ≡ at + length
    (q.kind ∷ length q.contents ∷ q.contents
    ++ body b) + 2 = omega (arith, length-append q.contents (body b)) in
    next turns t u o at (omega arith) _ refl _ _ _ (found_is o c at q (b ++ p ∷ a) e) n.0 n.1
    ∙ search_at o c t u p a k b n.2 (turns - 1) (at + 2 + length q.contents) (omega arith)
    (on o c at q (b ++ p ∷ a) e)
    ∙ ap (λ (i : ℕ). part_at i (length p.contents)) z

-- the contents that count are found at their place, with their length
pub counted_at_lem : (R : Rules) (m : message.Message) (t : ℕ) (v : List ℕ) (c : Counts R m t v) →
    counted_at R (octets m) t ≡ part_at (contents_at c.first) (length v)
unfolding counted_at octets
counted_at_lem R m t v c =
    let f = c.first in
    let k = checksum (total (front m)) in
    let z : 2 + length (body f.before) + 2 ≡ length (body f.before) + 4 = omega arith in
    let l = length-append f.before (f.p ∷ f.after) in
    let w = length-append (body m.parameters) (k ∷ []) in
    pick_yes _ _ _ c.listed
    ∙ search_at (octets m) k t (rival_of R t) f.p f.after f.kind f.before f.none (length (octets m)) 2
    (omega (arith, ap length f.is, enough m.parameters))
    (ap (λ (ps : List message.Parameter). body ps ++ k ∷ []) (sym f.is))
    ∙ (λ i. part_at (z i) (length (f.contents i)))

-- a part that holds no octets is nowhere
pub part_none : (o : List ℕ) (p : Option Part) → part_of o p ≡ none → p ≡ None
unfolding part_of
part_none o (Some part) e = clash cc
part_none o None e = refl

part_is : (p q : Part) → Some p ≡ Some q → p ≡ q
part_is p q e = cc

-- ---- of any octets, what counts lies inside
module _ (o : List ℕ) where
  abbrev pub Within : Option Part → Type 0
  Within p = (start n : ℕ) → p ≡ part_at start n → start + n < length o

  matched_inside : (t u at : ℕ) (f : Option Found) → f ≡ parameter_at o at → (next : ℕ → Option Part) →
      ((b : ℕ) → Within (next b)) → Within (matched t u f next)
  unfolding matched
  matched_inside t u at (Some one) p next i start n e =
      picked_by (start + n < length o) _ _ _ _ e
      (λ _ d. let q = part_is _ _ d in
      omega (
        arith,
        ap (λ (x : Part). x.start) q,
        ap (λ (x : Part). x.length) q,
        found_inside o at _ one.kind one.start one.length p refl,
      ))
      (λ _ d. picked_by (start + n < length o) _ _ _ _ d (λ _ z. clash cc) (λ _ z. i (one.start + one.length) start n z))
  matched_inside t u at None p next i start n e = clash cc

  search_inside : (turns t u at : ℕ) → Within (search_from turns t u o at)
  unfolding search_from
  search_inside zero t u at start n e = clash cc
  search_inside (suc turns) t u at start n e =
      matched_inside t u at (parameter_at o at) refl (search_from turns t u o) (search_inside turns t u) start n e

  pub counted_inside : (R : Rules) (t : ℕ) → Within (counted_at R o t)
  unfolding counted_at
  counted_inside R t start n e =
      picked_by (start + n < length o) _ _ _ _ e (λ _ d. search_inside (length o) t (rival_of R t) 2 start n d)
      (λ _ d. clash cc)
