-- `fmt` of `Hex` writes an octet's two digits in each turn.
use Rattle.std.proofs.Common.{rules, ◌≡◌, ℕ, ◌<◌, ◌+◌, ◌-◌, ◌^◌, List, [], ◌++◌, length, take, false, get_or, sym, ap, ◌∙◌}
use Rattle.std.proofs.Output.{has_written_append, has_written_of_eq}
use Rattle.std.proofs.lemmas.List.{take_more, flat_map_more}
use Rattle.std.proofs.lemmas.Fmt.{hex_byte}
use Rattle.std.specs.Fmt.{padded_integral, format_spec, digits}
use Rattle.std.specs.List.{flat_map}
use Rattle.streams.specs.Octets.{small_hex}
use Rattle.streams.proofs.HexDisplay.fmt.Goals as goal

-- the digits of one octet more
one_more : (xs : List ℕ) (i : ℕ) → i < length xs → get_or xs i 0 < 256 →
    flat_map small_hex (take i xs)
    ++ padded_integral (format_spec 32 0 4 2 (2 ^ 64 - 1)) false [] (digits 16 false (get_or xs i 0))
    ≡ flat_map small_hex (take (i + 1) xs)
one_more xs i h octet =
    ap (λ l. flat_map small_hex (take i xs) ++ l) (hex_byte false (get_or xs i 0) octet)
    ∙ flat_map_more small_hex [] (take i xs) (get_or xs i 0)
    ∙ ap (flat_map small_hex) (sym (take_more xs i 0 h))

pub loop-x-preserved : goal.loop-x-preserved
loop-x-preserved g c = λ p.
    let before = c.loop-x.invariant p in
    let now = rw (c.in_radix.ensures, c.laid_out.ensures) at c.in_ok-write.ensures.writes in
    has_written_of_eq _ _ _ _ _ (one_more c.args.self.now.0.now c.loop-x.x-index (search rules) (search rules))
    (has_written_append _ _ _ _ _ _ before (now before.plain (search rules)))
