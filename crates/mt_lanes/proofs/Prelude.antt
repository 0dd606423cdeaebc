-- What the proofs beside this file take from the toolchain, from the crates below and from this crate's definitions, under one name. Declares nothing.
pub use Rattle.std.proofs.Common.{List, arith, length, subst, suc, sym, zero, ℕ, ◌*◌, ◌+◌, ◌<◌, ◌∷◌, ◌≡◌}
pub use Rattle.mt_lanes.specs.Lanes.{Chain, EachPlace, RanSteps}
