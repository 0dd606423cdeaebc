-- Several calls of one pass (handle) that are made under one lock, and the answer of each.
-- Source: this project's own; the kernel's mas_lock, under which a caller makes several calls.
use Rattle.std.specs.Prelude.{◌≡◌, ℕ, ◌+◌, ◌<◌, List, [], ◌∷◌, Ok, length, map}
use Rattle.mt_tree.specs.Prelude.{Call, Done, Worn}
use Rattle.mt_base.specs.Passes as known
use Rattle.mt_tree.specs.declared.trees.Tree.{Tree}
use Rattle.mt_tree.specs.Trees.{opened, limit_of}
use Rattle.mt_tree.specs.Tries.{WasMade}

-- The handle made these calls one after another, each as it makes one alone, and these are their answers. They are numbered
-- from n on: no call of another handle came between.
abbrev pub AreMadeFrom : Tree → ℕ → known.Pass → List Call → List Done → known.Pass → Type 0
AreMadeFrom t n p [] [] q = q ≡ p
AreMadeFrom t n p [] (d ∷ dones) q = ⊥
AreMadeFrom t n p (call ∷ calls) [] q = ⊥
AreMadeFrom t n p (call ∷ calls) (d ∷ dones) q = (m : known.Pass) × WasMade t p call (Ok d) m × (d.call ≡ n) × AreMadeFrom t (n + 1) m calls dones q

-- the requests once each has taken the answer of its own call
abbrev pub told_each : {A : Type 0} → (A → Done → A) → List A → List Done → List A
told_each told [] dones = []
told_each told (a ∷ asked) [] = a ∷ asked
told_each told (a ∷ asked) (d ∷ dones) = told a d ∷ told_each told asked dones

-- The calls of these requests were made, and each request has taken the answer of its own call.
abbrev pub WereMade : {A : Type 0} → (A → Call) → (A → Done → A) → Tree → ℕ → known.Pass → List A → List A → known.Pass → Type 0
WereMade call told t n p asked asked' q = (dones : List Done) × AreMadeFrom t n p (map call asked) dones q × (asked' ≡ told_each told asked dones)

-- The handle has then seen this many calls, and made none of its own. The tree may not have those and `count` more.
pub record LacksCalls (t : Tree) (p : known.Pass) (count : ℕ) (w : Worn) (q : known.Pass) : Type 0 where
  pub calls : w.calls ≡ length q.seen
  pub lacks : limit_of t < w.calls + count
  pub saw : known.Saw (opened t) p q
