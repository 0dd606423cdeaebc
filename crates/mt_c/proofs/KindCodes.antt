-- The codes of kinds.
use Rattle.mt_c.proofs.Prelude.{◌≢◌, ◌<◌, ℕ, arith, Kind, kind_code}
use Rattle.mt_base.specs.declared.kinds.Kind.TheVariants as kinds

pub no_kind : (code : ℕ) → 3 < code → (kind : Kind) → kind_code kind ≢ code
no_kind code above kinds.Range same = absurd (omega arith)
no_kind code above kinds.Alloc same = absurd (omega arith)
no_kind code above kinds.Range32 same = absurd (omega arith)
no_kind code above kinds.Alloc32 same = absurd (omega arith)
