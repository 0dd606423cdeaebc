-- The calls of a tree, as a transcript reports them, and the history that they are.
-- Source: this project's own.
use Rattle.std.specs.Prelude.{◌≡◌, ◌↔◌, ℕ, ◌<◌, Bool, true, false, List, [], ◌∷◌, IsSome, IfSome, fold, take}
use Rattle.mt_verify.specs.Prelude.{Kind, Range, Call, Reply, NoNodes, Shortage, acted, Record, History, Limits, IsRefused, reply_text}
use Rattle.mt_verify.specs.declared.noted.Heard.{Heard}
use Rattle.mt_verify.specs.declared.noted.Heard.TheVariants.{Reply as Printed, Short}
use Rattle.mt_verify.specs.declared.noted.Noted.{Noted}

-- ---- the maps

-- a refusal for lack of nodes leaves the map
abbrev pub map_heard : Heard → List Range → List Range → List Range
map_heard (Printed bytes) before after = after
map_heard (Short s) before after = before

-- the map after one more call
abbrev pub map_after_noted : Kind → List Range → Noted → List Range
map_after_noted kind m n = map_heard n.heard m (acted kind m n.call).0

-- the map after the first k calls
abbrev pub map_of_noted : Kind → List Range → List Noted → ℕ → List Range
map_of_noted kind opening noted k = fold (map_after_noted kind) opening (take k noted)

-- ---- the history

-- the reply of the map before the call, or the refusal
abbrev pub reply_heard : Heard → Reply → Reply
reply_heard (Printed bytes) answer = answer
reply_heard (Short s) answer = NoNodes s

-- a call as a record of its tree's history
abbrev pub record_noted : Kind → List Range → Noted → Record
record_noted kind m n = record { pass = n.lane; call = n.call; reply = reply_heard n.heard (acted kind m n.call).1 }

abbrev pub records_noted : Kind → List Range → List Noted → List Record
records_noted kind m [] = []
records_noted kind m (n ∷ noted) = record_noted kind m n ∷ records_noted kind (map_after_noted kind m n) noted

abbrev pub history_of : Kind → ℕ → List Range → List Noted → History
history_of kind rows opening noted =
    record { kind = kind; rows = rows; opening = opening; records = records_noted kind opening noted }

-- ---- whether a call was answered so

-- the map before the call answers so, in print, or may refuse it with these numbers
abbrev pub IsHeardAt : Kind → ℕ → Limits → List Range → Call → Heard → Type 0
IsHeardAt kind version l m call (Printed bytes) = reply_text version (acted kind m call).1 ≡ bytes.now
IsHeardAt kind version l m call (Short s) = IsRefused kind l m call (NoNodes s)

-- ---- which histories a transcript can report

abbrev pub is_nomem : Reply → Bool
is_nomem (NoNodes shortage) = true
is_nomem reply = false

-- The refusal has these numbers, whoever held nodes. Where nodes were held, someone is named here who read before any call.
pub record IsShortAs (s : Shortage) (r : Reply) : Type 0 where
  pub other : Shortage
  pub is : r ≡ NoNodes other
  pub same : s ≡ record other { by = s.by }
  pub holder : IsSome s.by ↔ (0 < s.held)
  pub epoch : IfSome s.by (λ h. h.epoch ≡ 0)

-- a reply that a transcript can report so
abbrev pub IsHeard : ℕ → Heard → Reply → Type 0
IsHeard version (Printed bytes) r = (is_nomem r ≡ false) × (reply_text version r ≡ bytes.now)
IsHeard version (Short s) r = IsShortAs s r

-- these calls, with replies that a transcript can report so
abbrev pub AreHeard : ℕ → List Noted → List Record → Type 0
AreHeard version [] [] = Unit {0}
AreHeard version [] (r ∷ records) = ⊥
AreHeard version (n ∷ noted) [] = ⊥
AreHeard version (n ∷ noted) (r ∷ records) = (r.call ≡ n.call) × IsHeard version n.heard r.reply
    × AreHeard version noted records

-- the very reply
abbrev pub IsReplyOf : ℕ → Heard → Reply → Type 0
IsReplyOf version (Printed bytes) r = (is_nomem r ≡ false) × (reply_text version r ≡ bytes.now)
IsReplyOf version (Short s) r = r ≡ NoNodes s

pub record IsRecordOf (version : ℕ) (n : Noted) (r : Record) : Type 0 where
  pub pass : r.pass ≡ n.lane
  pub call : r.call ≡ n.call
  pub reply : IsReplyOf version n.heard r.reply

-- these very calls, one by one
abbrev pub AreRecordsOf : ℕ → List Noted → List Record → Type 0
AreRecordsOf version [] [] = Unit {0}
AreRecordsOf version [] (r ∷ records) = ⊥
AreRecordsOf version (n ∷ noted) [] = ⊥
AreRecordsOf version (n ∷ noted) (r ∷ records) = IsRecordOf version n r × AreRecordsOf version noted records
