use Rattle.mt_layout.proofs.Prelude.{arith, rules, length-set, ◌≡◌, ◌+◌, ◌*◌, ◌-◌, ◌≤◌, length, replicate, ℕ}
use Rattle.mt_layout.proofs.RowSizes.{slots-fit}
use Rattle.mt_layout.proofs.Writing.{all_written}
use Rattle.mt_layout.proofs.ReadBack.{reads_back, row_words-hold}
use Rattle.mt_layout.proofs.layout.Layout.words_of.Goals as goal

pub returns : goal.returns
returns g c =
    let all = length c.args.words.now in
    let room : 2 * g.row.SLOTS + g.row.GAPS ≤ all = slots-fit all g.row.SLOTS g.row.GAPS c.requires.layout in
    let long : length c.loop-i.words ≡ all = omega (arith, length-set {A = ℕ}) in
    let zeros : c.fill.new.self ≡ replicate {A = ℕ} (all - (2 * g.row.SLOTS + g.row.GAPS)) 0 = search rules in
    let words = all_written all g.row.SLOTS g.row.GAPS c.args.parent c.args.items.now c.requires.layout c.requires.fit c.loop-i.words c.fill.new.self c.loop-i.i long room c.loop-i-test.false c.loop-i.invariant zeros in
    record {
      words = words;
      read_back = λ fits. rw words (reads_back g.row.SLOTS g.row.GAPS _ 0 c.args.items.now fits.fit fits.rise
          (row_words-hold all g.row.SLOTS g.row.GAPS c.args.parent c.args.items.now c.requires.layout fits) fits.some);
    }
