use Rattle.mt_told.proofs.Prelude.{◌≡◌, false, ap, inl, inr, is_answered, IfSome_then, IfOk-weaker}
use Rattle.mt_told.proofs.LineByLine.{call_line, check_line, copy_line, look_line, quiet_line, scan_line}
use Rattle.mt_told.proofs.reading.read_line.Goals as goal

pub returns-in-Dup-clause-some : goal.returns-in-Dup-clause-some
returns-in-Dup-clause-some c =
    IfOk-weaker c.read_step.result _ _ (λ found h. IfSome_then found h (λ rest added.
    copy_line c.args.stand.now.lane c.args.stand.now.phase c.args.line.now c.args.text.now rest.now c.args.told.now.items _ c.in-Dup.from c.in-Dup.name c.in-Dup.is c.begun.result c.begun.ensures added)) c.read_step.ensures.some

pub returns-in-Check-clause-some : goal.returns-in-Check-clause-some
returns-in-Check-clause-some c =
    IfOk-weaker c.read_step-in-Check.result _ _ (λ found h. IfSome_then found h (λ rest added.
    check_line c.args.stand.now.lane c.args.stand.now.phase c.args.line.now c.args.text.now rest.now c.args.told.now.items _ c.in-Check.tree c.in-Check.is c.begun-in-Check.result c.begun-in-Check.ensures added)) c.read_step-in-Check.ensures.some

pub returns-in-Write-clause-some : goal.returns-in-Write-clause-some
returns-in-Write-clause-some c =
    IfOk-weaker c.read_step-in-Write.result _ _ (λ found h. IfSome_then found h (λ rest added.
    call_line c.args.stand.now.lane c.args.stand.now.phase c.args.line.now c.args.text.now rest.now c.args.told.now.items _ c.in-Write.tree c.in-Write.call c.in-Write.is c.place.result c.place.ensures added)) c.read_step-in-Write.ensures.some

pub returns-in-Ask-clause-some : goal.returns-in-Ask-clause-some
returns-in-Ask-clause-some c =
    IfOk-weaker c.read_step-in-Ask.result _ _ (λ found h. IfSome_then found h (λ rest added.
    look_line c.args.stand.now.lane c.args.stand.now.phase c.args.line.now c.args.text.now rest.now c.args.told.now.items _ c.in-Ask.tree c.in-Ask.query c.in-Ask.is c.place-in-Ask.result c.place-in-Ask.ensures added)) c.read_step-in-Ask.ensures.some

pub returns-in-Scan-clause-some : goal.returns-in-Scan-clause-some
returns-in-Scan-clause-some c =
    IfOk-weaker c.read_scan.result _ _ (λ found h. IfSome_then found h (λ rest added.
    scan_line c.args.stand.now.lane c.args.stand.now.phase c.args.line.now c.args.text.now rest.now c.args.told.now.items _ c.in-Scan.tree c.in-Scan.index c.in-Scan.max c.in-Scan.count c.in-Scan.is c.place-in-Scan.result c.place-in-Scan.ensures added)) c.read_scan.ensures.some

pub returns-in-Tree-clause-some : goal.returns-in-Tree-clause-some
returns-in-Tree-clause-some c =
    let quiet : is_answered c.args.line.now.item ≡ false =
    elim c.in-Tree.is [
      | inl tree ↦ ap is_answered tree.2
      | inr other ↦ elim other [ inl lane ↦ ap is_answered lane.1 | inr join ↦ ap is_answered join ]
    ] in
    quiet_line c.args.stand.now.lane c.args.stand.now.phase c.args.line.now c.args.text.now c.args.told.now.items quiet
