-- What a pass knows when a step begins, and of the steps behind it: from these the steps of one lane follow each other.
use Rattle.mt_linearize.proofs.Prelude.{◌≡◌, ℕ, ◌+◌, ◌<◌, ◌≤◌, max, List, [], ◌∷◌, ◌++◌, length, arith, ap, ◌∙◌, append_assoc, length-append, AllByRecursion, Call, Reply, History, Pass, Grows, Begins, Wrote, begins_long, begins_on, Outcome, Called, Looked, Counted, Follows, Does, Leads, Pairs}
use Rattle.mt_linearize.proofs.Lists.{every}

-- ---- a pass goes on

-- what is so of a pass at a later moment, whatever it did
pub record Onward (p q : Pass) : Type 0 where
  pub number : q.number ≡ p.number
  pub seen : Begins p.seen q.seen
  pub begun : p.begun ≤ q.begun
  pub ended : p.ended ≤ q.ended

pub onward : (p q r : Pass) → Onward p q → Onward q r → Onward p r
onward p q r g h = record { number = h.number ∙ g.number; seen = begins_on p.seen q.seen r.seen g.seen h.seen; begun = omega (arith, g.begun, h.begun); ended = omega (arith, g.ended, h.ended) }

pub grows_onward : (p q : Pass) → Grows p q → Onward p q
grows_onward p q g = record { number = g.number; seen = g.seen; begun = g.begun; ended = g.ended }

pub wrote_seen : (tree : History) (p : Pass) (number : ℕ) (call : Call) (reply : Reply) (q : Pass) → Wrote tree p number call reply q → length q.seen ≡ number
wrote_seen tree p number call reply q d = omega (arith, d.last, ap (λ (z : Pass). length z.seen) d.pass, length-append (p.seen ++ d.others) (record { pass = p.number; call = call; reply = reply } ∷ []))

pub does_onward : (tree : History) (p : Pass) (o : Outcome) (q : Pass) → Does tree p o q → Onward p q
does_onward tree p (Called number call reply) q (closed, d) = record {
  number = ap (λ (z : Pass). z.number) d.pass;
  seen = (d.others ++ record { pass = p.number; call = call; reply = reply } ∷ [], ap (λ (z : Pass). z.seen) d.pass ∙ append_assoc p.seen d.others (record { pass = p.number; call = call; reply = reply } ∷ []));
  begun = omega (arith, ap (λ (z : Pass). z.begun) d.pass);
  ended = omega (arith, d.ended, ap (λ (z : Pass). z.ended) d.pass);
}
does_onward tree p (Looked lo hi k query value) q d = grows_onward p q d.grows
does_onward tree p (Counted said ranges) q d = grows_onward p q d.grows

pub leads_onward : (tree : History) (p : Pass) (os : List Outcome) (q : Pass) → Leads tree p os q → Onward p q
leads_onward tree p [] q l = grows_onward p q l.grows
leads_onward tree p (o ∷ os) q (m, n, learns, does, leads) = onward p m q (grows_onward p m learns.grows) (onward m n q (does_onward tree m o n does) (leads_onward tree n os q leads))

-- ---- steps behind a moment, and steps known at a moment

-- a step that begins behind what this pass knows
abbrev pub Behind : Pass → Outcome → Type 0
Behind p (Called number call reply) = (length p.seen < number) × (p.begun < number)
Behind p (Looked lo hi k query value) = (p.ended ≤ lo) × (length p.seen ≤ k) × (length p.seen ≤ lo + 1)
Behind p (Counted said ranges) = Unit {0}

-- a step that this pass knows of
abbrev pub Known : Pass → Outcome → Type 0
Known p (Called number call reply) = (number ≤ length p.seen) × (number ≤ p.ended)
Known p (Looked lo hi k query value) = (k ≤ length p.seen) × (lo ≤ p.ended) × (hi ≤ max p.begun (length p.seen))
Known p (Counted said ranges) = Unit {0}

behind_more : (p q : Pass) (o : Outcome) → Onward p q → Behind q o → Behind p o
behind_more p q (Called number call reply) g b = let l : length p.seen ≤ length q.seen = begins_long p.seen q.seen g.seen in (omega arith, omega (arith, g.begun))
behind_more p q (Looked lo hi k query value) g b = let l : length p.seen ≤ length q.seen = begins_long p.seen q.seen g.seen in (omega (arith, g.ended), omega arith, omega arith)
behind_more p q (Counted said ranges) g b = tt

known_more : (p q : Pass) (o : Outcome) → Onward p q → Known p o → Known q o
known_more p q (Called number call reply) g b = let l : length p.seen ≤ length q.seen = begins_long p.seen q.seen g.seen in (omega arith, omega (arith, g.ended))
known_more p q (Looked lo hi k query value) g b = let l : length p.seen ≤ length q.seen = begins_long p.seen q.seen g.seen in (omega arith, omega (arith, g.ended), omega (arith, g.begun))
known_more p q (Counted said ranges) g b = tt

known_follows : (p : Pass) (o other : Outcome) → Known p o → Behind p other → Follows o other
known_follows p (Called m c r) (Called n d s) k b = omega arith
known_follows p (Called m c r) (Looked lo hi at q v) k b = (omega arith, omega arith)
known_follows p (Called m c r) (Counted said ranges) k b = tt
known_follows p (Looked lo hi at q v) (Called n c r) k b = omega arith
known_follows p (Looked lo hi at q v) (Looked lo' hi' at' q' v') k b = (omega arith, omega arith, omega arith)
known_follows p (Looked lo hi at q v) (Counted said ranges) k b = tt
known_follows p (Counted said ranges) other k b = tt

does_behind : (tree : History) (p : Pass) (o : Outcome) (q : Pass) → Does tree p o q → Behind p o
does_behind tree p (Called number call reply) q (closed, d) = (omega (arith, d.last, length-append p.seen d.others), d.begun)
does_behind tree p (Looked lo hi k query value) q d = (d.before, d.from, d.floor)
does_behind tree p (Counted said ranges) q d = tt

does_known : (tree : History) (p : Pass) (o : Outcome) (q : Pass) → Does tree p o q → Known q o
does_known tree p (Called number call reply) q (closed, d) = (omega (arith, wrote_seen tree p number call reply q d), omega (arith, ap (λ (z : Pass). z.ended) d.pass))
does_known tree p (Looked lo hi k query value) q d = (d.true.made, d.lo_known, d.hi_known)
does_known tree p (Counted said ranges) q d = tt

pub leads_behind : (tree : History) (p : Pass) (os : List Outcome) (q : Pass) → Leads tree p os q → AllByRecursion (Behind p) os
leads_behind tree p [] q l = tt
leads_behind tree p (o ∷ os) q (m, n, learns, does, leads) =
    let first : Onward p m = grows_onward p m learns.grows in
    let then : Onward p n = onward p m n first (does_onward tree m o n does) in
    (behind_more p m o first (does_behind tree m o n does), every (Behind n) (Behind p) os (λ x b. behind_more p n x then b) (leads_behind tree n os q leads))

pub leads_known : (tree : History) (p : Pass) (os : List Outcome) (q : Pass) → Leads tree p os q → AllByRecursion (Known q) os
leads_known tree p [] q l = tt
leads_known tree p (o ∷ os) q (m, n, learns, does, leads) = (known_more n q o (leads_onward tree n os q leads) (does_known tree m o n does), leads_known tree n os q leads)

-- the steps of one lane in one phase follow each other
pub leads_follow : (tree : History) (p : Pass) (os : List Outcome) (q : Pass) → Leads tree p os q → Pairs Follows os
leads_follow tree p [] q l = tt
leads_follow tree p (o ∷ os) q (m, n, learns, does, leads) = (every (Behind n) (Follows o) os (λ x b. known_follows n o x (does_known tree m o n does) b) (leads_behind tree n os q leads), leads_follow tree n os q leads)
