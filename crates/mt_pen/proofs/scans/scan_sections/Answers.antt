use Rattle.mt_pen.proofs.Going.{goes_on, word_here}
use Rattle.mt_pen.proofs.Scanning.{scanned_more}
use Rattle.mt_pen.proofs.scans.scan_sections.Goals as goal

pub loop-pass-preserved : goal.loop-pass-preserved
loop-pass-preserved c =
    let so_far = c.loop-pass.invariant in
    record {
      on = goes_on _ _ _ _ so_far.on c.load_section.ensures.on;
      scanned = scanned_more _ _ _ _ _ _ _ _ so_far.scanned c.load_section.ensures.pen (word_here _ _ _ _ _ _ _ _ so_far.scanned so_far.on.pass c.load_section.ensures.epoch c.load_section.ensures.own) c.lesser-scan.ensures;
    }
