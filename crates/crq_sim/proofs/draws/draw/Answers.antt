use Rattle.std.proofs.Common.{◌≡◌, ◌∙◌, ap, ℕ, arith}
use Rattle.std.specs.Int.{w64, from_le_bytes}
use Rattle.std.proofs.lemmas.Nat.{from_le_bytes-to_le_bytes_8}
use Rattle.rand_xoshiro.specs.SplitMix64.{mix_u64}
use Rattle.crq_sim.specs.Draws.{drawn, next_state}
use Rattle.crq_sim.proofs.draws.draw.Goals as goal

pub returns-clause-value : goal.returns-clause-value
unfolding drawn
returns-clause-value c =
    let seed : c.from_seed-generator.result ≡ c.args.state = c.from_seed-generator.ensures ∙ ap (from_le_bytes w64) c.to_le_bytes.ensures ∙ from_le_bytes-to_le_bytes_8 c.args.state (omega arith) in
    ap (λ (p : ℕ × ℕ). p.0) c.next_word-value.ensures ∙ ap (λ (s : ℕ). (mix_u64 s).0) seed

pub returns-clause-state : goal.returns-clause-state
unfolding next_state
returns-clause-state c =
    let seed : c.from_seed-generator.result ≡ c.args.state = c.from_seed-generator.ensures ∙ ap (from_le_bytes w64) c.to_le_bytes.ensures ∙ from_le_bytes-to_le_bytes_8 c.args.state (omega arith) in
    let moved = ap (λ (p : ℕ × ℕ). p.1) c.next_word-value.ensures in
    let back : c.from_le_bytes.result ≡ c.next_word-value.new.self = c.from_le_bytes.ensures ∙ ap (from_le_bytes w64) c.state.ensures ∙ from_le_bytes-to_le_bytes_8 c.next_word-value.new.self (omega arith) in
    back ∙ moved ∙ ap (λ (s : ℕ). (mix_u64 s).1) seed
