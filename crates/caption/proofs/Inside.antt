-- What is found lies inside the slice that it names: contents inside the message, an entry's text inside the
-- directory.
-- Assumes nothing.
use Rattle.rules.specs.First.{index_of}
use Rattle.std.proofs.Common.{ℕ, Result, Ok, Err, Option, Some, None}
use Prim.Native.Nat.{ℕ, suc, ◌+◌, ◌-◌, ◌≤◌, ◌<◌}
use mathlib.Core.Path.{◌≡◌, refl, sym, ◌∙◌, ap, subst}
use mathlib.Core.List.{List, [], ◌∷◌}
use native.Mathlib.Omega.{arith}
use lib.ListN.{length, length-drop, take, drop}
use Rattle.rules.proofs.Laying.{part_is}
use Rattle.rules.proofs.Tests.{pick_case, picked_by, both, le_of, clash}
use Rattle.rules.specs.Table.{Rules, rules_of}
use Rattle.rules.specs.Editions.{known, book_of}
use Rattle.rules.specs.declared.Fault.{Fault}
use Rattle.message.specs.declared.Part.{Part}
use Rattle.message.specs.Verdict.{verdict_of}
use Rattle.message.specs.Parts.{counted_at}
use Rattle.message.proofs.Places.{Within, counted_inside}
use Rattle.caption.specs.declared.CallerText.{CallerText}
use Rattle.caption.specs.declared.Shown.{Shown}
use Rattle.caption.specs.declared.Shown.TheVariants.{InMessage, InDirectory}
use Rattle.caption.specs.Lines.{on_first, lines_of, behind, names}
use Rattle.caption.specs.Directory.{span}
use Rattle.caption.specs.Told.{told, Finding}
use Rattle.caption.specs.Caption.{lookup_from, by_entry, by_caller, by_name, find_under, find_of, find_in, slice_of, part_text, caption_in, entry_at}

-- ---- lines, each with its end
on_first-span : (x : ℕ) (ls : List (List ℕ)) (n : ℕ) → span ls ≤ suc n → span (on_first x ls) ≤ suc (suc n)
unfolding on_first span
on_first-span x [] n h = omega arith
on_first-span x (l ∷ ls) n h = omega arith

-- the last line may be without its end
lines_span : (d : List ℕ) → span (lines_of d) ≤ suc (length d)
unfolding lines_of span
lines_span [] = omega arith
lines_span (x ∷ d) =
    pick_case (λ (ls : List (List ℕ)). span ls ≤ suc (suc (length d))) _ _ _ (λ _. omega (arith, lines_span d))
    (λ _. on_first-span x (lines_of d) (length d) (lines_span d))

-- ---- an entry's text
same_text : (s t : CallerText) → Some s ≡ Some t → s ≡ t
same_text s t e = cc

entry_span : (caller : List ℕ) (at : ℕ) (ls : List (List ℕ)) (start n : ℕ) →
    lookup_from caller at ls ≡ entry_at start n → start + n < at + span ls
unfolding lookup_from span names behind
entry_span caller at [] start n e = clash cc
entry_span caller at (l ∷ ls) start n e =
    picked_by (start + n < at + (suc (length l) + span ls)) _ _ _ _ e
    (λ t d.
    let text = same_text _ _ d in
    let x : at + suc (index_of 0x3D l) ≡ start = ap (λ (text : CallerText). text.start) text in
    let y : length (drop (suc (index_of 0x3D l)) l) ≡ n = ap (λ (text : CallerText). text.length) text in
    omega (arith, le_of _ _ (both _ _ t).0, length-drop (suc (index_of 0x3D l)) l))
    (λ _ d. omega (arith, entry_span caller (at + suc (length l)) ls start n d))

-- ---- the part
module _ (o d : List ℕ) where
  abbrev Inside : Result Shown Fault → Type 0
  Inside r = (told r).start + (told r).size ≤ length (slice_of r o d)

  by_entry_inside : (e : Option CallerText) (start n : ℕ) → ((at k : ℕ) → e ≡ entry_at at k → at + k ≤ length d) →
      start + n ≤ length o → Inside (Ok (by_entry e start n))
  unfolding by_entry told slice_of
  by_entry_inside (Some text) start n f h = f text.start text.length refl
  by_entry_inside None start n f h = h

  by_caller_inside : (p : Option Part) → Within o p → Inside (Ok (by_caller p o d))
  unfolding by_caller told slice_of
  by_caller_inside (Some part) i =
      by_entry_inside _ part.start part.length (λ at k e. omega (arith, entry_span _ 0 (lines_of d) at k e, lines_span d))
      (omega (arith, i part.start part.length refl))
  by_caller_inside None i = omega arith

  by_name_inside : (R : Rules) (p : Option Part) → Within o p → Inside (Ok (by_name R p o d))
  unfolding by_name told slice_of
  by_name_inside R (Some part) i = omega (arith, i part.start part.length refl)
  by_name_inside R None i = by_caller_inside (counted_at R o 0x02) (counted_inside o R 0x02)

  under_inside : (R : Rules) (v : Result ℕ Fault) → Inside (find_under R v o d)
  unfolding find_under told slice_of
  under_inside R (Ok n) = by_name_inside R (counted_at R o 0x07) (counted_inside o R 0x07)
  under_inside R (Err f) = omega arith

  pub part_inside : (R : Rules) → Inside (find_of R o d)
  unfolding find_of
  part_inside R = under_inside R (verdict_of R o)

  -- by unknown numbers it is the empty part of the message
  pub inside_by : (e w : ℕ) → Inside (find_in e w o d).answer
  unfolding find_in told slice_of
  inside_by e w =
      pick_case (λ (r : Finding). Inside r.answer) (known e w) _ _ (λ _. part_inside (rules_of (book_of e w)))
      (λ _. omega arith)

-- ---- the part is cut out of its slice
module _ (e w : ℕ) (o d : List ℕ) (r : Finding) (f : r ≡ find_in e w o d) where
  inside : Inside o d r.answer
  inside = subst (λ (x : Finding). Inside o d x.answer) (sym f) (inside_by o d e w)

  pub in_message : (start n : ℕ) → r.answer ≡ Ok (InMessage start n) → start + n ≤ length o
  unfolding told slice_of
  in_message start n q = subst (Inside o d) q inside

  pub in_directory : (start n : ℕ) → r.answer ≡ Ok (InDirectory start n) → start + n ≤ length d
  unfolding told slice_of
  in_directory start n q = subst (Inside o d) q inside

  caption_is : (s : Result Shown Fault) → r.answer ≡ s → caption_in e w o d ≡ part_text s o d
  unfolding caption_in
  caption_is s q = ap (λ (x : Finding). part_text x.answer o d) (sym f) ∙ ap (λ (x : Result Shown Fault). part_text x o d) q

  pub message_part : (start n : ℕ) → r.answer ≡ Ok (InMessage start n) →
      take (start + n - start) (drop start o) ≡ caption_in e w o d
  unfolding part_text told slice_of
  message_part start n q = part_is o start n ∙ sym (caption_is _ q)

  pub directory_part : (start n : ℕ) → r.answer ≡ Ok (InDirectory start n) →
      take (start + n - start) (drop start d) ≡ caption_in e w o d
  unfolding part_text told slice_of
  directory_part start n q = part_is d start n ∙ sym (caption_is _ q)

  pub refused_part : (g : Fault) → r.answer ≡ Err g → [] ≡ caption_in e w o d
  unfolding part_text told slice_of
  refused_part g q = sym (caption_is _ q)
