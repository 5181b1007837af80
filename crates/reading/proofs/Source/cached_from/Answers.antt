-- `reading::Source::cached_from` meets its contract: what `find` passed over is not cached.
use Prim.Native.Nat.{ℕ, ◌≤◌, ◌<◌}
use native.Mathlib.Omega.{arith}
use Rattle.std.proofs.Common.{Option, Some, None, MatchOption, unwrap_or, rules}
use Rattle.std.proofs.lemmas.Iterator.{first_from_Range}
use Rattle.media.specs.Geometry.{pages_per_file}
use Rattle.device.specs.Device.{slot_count}
use Rattle.admission.specs.Tables.{slot_for}
use Rattle.reading.proofs.Source.cached_from.Goals as goal

-- the first number from a on, below b, or b
first_or : (r : Option ℕ) (Yes No : ℕ → Type 0) (a b : ℕ) → a ≤ b
    → MatchOption r ((k : ℕ) → a ≤ k → k < b → No k) (λ i. (a ≤ i) × (i < b) × Yes i × ((k : ℕ) → a ≤ k → k < i → No k))
    → (a ≤ unwrap_or r b) × (unwrap_or r b ≤ b) × (unwrap_or r b < b → Yes (unwrap_or r b)) × ((p : ℕ) → a ≤ p → p < unwrap_or r b → No p)
first_or None Yes No a b h m = (h, omega arith, λ l. absurd (omega arith), m)
first_or (Some i) Yes No a b h m = (m.0, omega arith, λ l. m.2, m.3)

pub returns : goal.returns
returns c =
    let s = c.args.self.now in
    let slot : ℕ → ℕ = slot_for pages_per_file s.table.now.slots s.file in
    let m = first_from_Range _ _ _ c.find.result (λ p. slot p < slot_count) (λ p. slot_count ≤ slot p) c.find.ensures.ran (λ x q k. search rules) (λ x q k. search rules) in
    let r = first_or c.find.result _ _ c.args.page c.args.end c.requires m in
    rw c.unwrap_or.ensures (record { within = (r.0, r.1); cached = r.2; none_before = r.3 })
