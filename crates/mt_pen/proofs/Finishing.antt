-- How a call of the writer's rows ends.
use Rattle.mt_pen.proofs.Prelude.{◌≡◌, ◌⊎◌, ℕ, ◌+◌, ◌/◌, ◌++◌, Bool, true, false, Some, [], ◌∷◌, length, refl, sym, ap, subst, ◌∙◌, arith, inl, inr, if◌then◌else◌, map-append, Call, Reply, Kind, acted, Scan, MayFinish, LeavesMap, map_by, with_record, finished, Sheet, Told, Moment, PenPart, PassPart, MayEnd, EndsQuietly, known_by, rooted_in, moment, record_of, records_of, pen_ended, pass_ended, pass_recorded, quiet_moment, Identity, told_of, caller_of, sheet_worked, IsWorked, still_short}
use Rattle.mt_base.specs.Passes as known
use Rattle.mt_rows.specs.Publish as rows
use Rattle.mt_rule.specs.Ends as ends
use Rattle.mt_pen.proofs.Telling.{found_loaded, told_least}

-- the shortage that the rows tell is one under the tree's limits
found_short : (t : Identity) (p : PenPart) (q : known.Pass) (scan : Scan) (scans : ℕ) (call : Call) (reply : Reply) → IsWorked p scan scans
    → rows.IsFoundShort p.shape.kind (sheet_worked t p q scan scans) call reply → ends.IsPenShort p call reply
found_short t p q scan scans call reply w short = record {
  scan = scan;
  refused = record {
    shortage = short.refused.shortage;
    told = short.refused.told;
    wants = short.refused.wants;
    short = still_short p.shape.rows p.shape.opened (length p.shape.opening / 2 + 2) p.ended p.ended true (map_by (rooted_in p)) short.refused.shortage w.opens (omega arith) short.refused.short;
  };
  counted = record {
    need = short.counted.need;
    live = short.counted.live;
    rows = short.counted.rows;
    many = short.counted.many;
    apart = short.counted.apart;
    held = short.counted.held;
    by = short.counted.by;
  };
  least = told_least scan.by scan.least w.least;
  found = found_loaded scan.by p.loaded w.holder;
  scanned = w.scanned short.scanned;
}

pub may_end : (t : Identity) (p : PenPart) (q : known.Pass) (scan : Scan) (scans : ℕ) (kind : Kind) (call : Call) (reply : Reply) → IsWorked p scan scans
    → MayFinish kind (sheet_worked t p q scan scans) call reply → MayEnd p call reply
may_end t p q scan scans kind call reply w may = record { in_flight = may.in_flight; quiet = λ e. quietly (may.kept e) }
  where
    answered : (acted p.shape.kind (map_by (rooted_in p)) call ≡ (map_by (rooted_in p), reply)) ⊎ rows.IsFoundShort p.shape.kind (sheet_worked t p q scan scans) call reply
        → (acted p.shape.kind (map_by (rooted_in p)) call ≡ (map_by (rooted_in p), reply)) ⊎ ends.IsPenShort p call reply
    answered (inl x) = inl x
    answered (inr x) = inr (found_short t p q scan scans call reply w x)

    quietly : LeavesMap kind (sheet_worked t p q scan scans) call reply → EndsQuietly p call reply
    quietly l = record {
      none_buried = l.none_buried;
      answer = answered (subst (λ (k : Kind). (acted k (map_by (rooted_in p)) call ≡ (map_by (rooted_in p), reply)) ⊎ rows.IsFoundShort k (sheet_worked t p q scan scans) call reply) (sym l.told) l.answer);
    }

-- what is told then
ended_told : (b : Bool) (t : Identity) (p : PenPart) (q : PassPart) (m : Moment) (call : Call) (reply : Reply) → m ≡ moment q.number call reply m.cuts
    → Some (told_of t (record p { history = if b then p.history else p.history ++ m ∷ [] }) (known_by (record (if b then q else pass_recorded m p q) { ended = p.ended + 1 })))
    ≡ (if b then Some (told_of t p (known_by q)) else with_record (Some (told_of t p (known_by q))) call reply)
ended_told true t p q m call reply of = refl
ended_told false t p q m call reply of =
    ap (λ records. let told : Told = record { caller = caller_of t (known_by q); records = records } in Some told)
    (map-append record_of p.history (m ∷ []) ∙ ap (λ (x : Moment). records_of p.history ++ record_of x ∷ []) of)

pub ended_sheet : (t : Identity) (p p' : PenPart) (q q' : PassPart) (scan : Scan) (scans : ℕ) (call : Call) (reply : Reply) → p' ≡ pen_ended (quiet_moment p q call reply) p → q' ≡ pass_ended (quiet_moment p q call reply) p q
    → sheet_worked t p' (known_by q') scan scans ≡ finished (sheet_worked t p (known_by q) scan scans) call reply
ended_sheet t p p' q q' scan scans call reply pen pass =
    ap (λ (x : PenPart). sheet_worked t x (known_by q') scan scans) pen
    ∙ ap (λ (x : PassPart). sheet_worked t (pen_ended (quiet_moment p q call reply) p) (known_by x) scan scans) pass
    ∙ ap (λ told. let s : Sheet = sheet_worked t p (known_by q) scan scans in record s { ended = p.ended + 1; in_flight = false; published = false; told = told }) (ended_told p.published t p q (quiet_moment p q call reply) call reply refl)

-- the pass has made as many steps without the lock as before
pub ended_steps : (p : PenPart) (q q' : PassPart) (m : Moment) → q' ≡ pass_ended m p q → q'.steps ≡ q.steps
ended_steps p q q' m is = ap (λ (x : PassPart). x.steps) is ∙ by p.published
  where
    by : (b : Bool) → (record (if b then q else pass_recorded m p q) { ended = p.ended + 1 }).steps ≡ q.steps
    by true = refl
    by false = refl
