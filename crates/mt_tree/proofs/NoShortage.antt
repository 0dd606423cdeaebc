-- What a map answers is no shortage; and whoever is told to hold rows is not a caller that has no section open.
use Rattle.mt_tree.proofs.Prelude.{◌≡◌, ◌≢◌, ℕ, ◌<◌, Bool, true, false, List, Option, Some, None, refl, sym, ap, ◌∙◌, subst, inl, inr, IfSome, nat_lt, if◌then◌else◌, Call, Kind, Range, Holder, Reply, acted, holder_of, was_acted, DidOrLacked, Book, map_by, IsScan, Sheet, Told}

-- the pass is not the one that holds rows
abbrev pub IsOther : Option Holder → ℕ → Type 0
IsOther by pass = IfSome by (λ holder. holder.pass ≢ pass)

-- the pass that holds rows is one of so many
abbrev pub IsAmong : Option Holder → ℕ → Type 0
IsAmong by passes = IfSome by (λ holder. holder.pass < passes)

-- ---- whoever holds rows is so

module _ (P : Holder → Type 0) where
  -- a scan found one
  found : (by : Option Holder) → ((holder : Holder) → by ≡ Some holder → P holder) → IfSome by P
  found None each = tt
  found (Some holder) each = each holder refl

  pub named_if : (by : Option Holder) (held : ℕ) → IfSome by P → IfSome (if nat_lt 0 held then by else None) P
  named_if by held is = at (nat_lt 0 held)
    where
      at : (b : Bool) → IfSome (if b then by else None) P
      at true = is
      at false = tt

  -- a call that was acted names nobody
  pub made_named : (kind : Kind) (m m' : List Range) (call : Call) (reply : Reply) → acted kind m call ≡ (m', reply) → IfSome (holder_of reply) P
  made_named kind m m' call reply is = subst (λ (o : Option Holder). IfSome o P) (sym (was_acted kind m (record { pass = 0; call = call; reply = reply }) m' is).unheld) tt

  -- and one that was refused names whom the scan found
  applied : (kind : Kind) (s s' : Sheet) (book book' : Book) (call : Call) (reply : Reply) → DidOrLacked kind s s' book book' call reply → (IsScan s.shared s.told s'.scan → IfSome s'.scan.by P) → IfSome (holder_of reply) P
  applied kind s s' book book' call reply (inl did) scan = made_named kind (map_by s.tree) (map_by s'.tree) call reply did.acts
  applied kind s s' book book' call reply (inr lacked) scan =
      let short = lacked.0 in
      subst (λ (o : Option Holder). IfSome o P) (sym (ap holder_of short.refused.told ∙ short.counted.by)) (named_if s'.scan.by short.refused.shortage.held (scan short.answer))

-- ---- a caller whose section is shut is another, and the holder is one of the table's passes

pub scan_other : (shared : Bool) (s' : Sheet) (told : Told) (o : Option Told) → IsScan shared o s'.scan → o ≡ Some told → told.caller.standing ≡ None → IsOther s'.scan.by told.caller.pass
scan_other shared s' told o scan is closed = found (λ holder. holder.pass ≢ told.caller.pass) s'.scan.by (λ holder by. (scan.pass told holder is by).1 closed)

pub scan_among : (shared : Bool) (s' : Sheet) (told : Told) (o : Option Told) → IsScan shared o s'.scan → o ≡ Some told → IsAmong s'.scan.by told.caller.passes
scan_among shared s' told o scan is = found (λ holder. holder.pass < told.caller.passes) s'.scan.by (λ holder by. (scan.pass told holder is by).0)

pub applied_other : (kind : Kind) (s s' : Sheet) (book book' : Book) (call : Call) (reply : Reply) (told : Told) → DidOrLacked kind s s' book book' call reply → s.told ≡ Some told → told.caller.standing ≡ None → IsOther (holder_of reply) told.caller.pass
applied_other kind s s' book book' call reply told answer is closed = applied (λ holder. holder.pass ≢ told.caller.pass) kind s s' book book' call reply answer (λ scan. scan_other s.shared s' told s.told scan is closed)

pub applied_among : (kind : Kind) (s s' : Sheet) (book book' : Book) (call : Call) (reply : Reply) (told : Told) → DidOrLacked kind s s' book book' call reply → s.told ≡ Some told → IsAmong (holder_of reply) told.caller.passes
applied_among kind s s' book book' call reply told answer is = applied (λ holder. holder.pass < told.caller.passes) kind s s' book book' call reply answer (λ scan. scan_among s.shared s' told s.told scan is)
