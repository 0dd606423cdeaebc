use Rattle.mt_check.proofs.Prelude.{refl, faults_at, faults_in, longest_at}
use Rattle.mt_check.proofs.laws.worked_trees_are_checked_by_hand.Goals as goal

pub returns-clause-leaf : goal.returns-clause-leaf
unfolding faults_at faults_in longest_at
returns-clause-leaf c = refl

pub returns-clause-leaves : goal.returns-clause-leaves
unfolding faults_at faults_in longest_at
returns-clause-leaves c = refl

pub returns-clause-name : goal.returns-clause-name
unfolding faults_at faults_in longest_at
returns-clause-name c = refl

pub returns-clause-parent : goal.returns-clause-parent
unfolding faults_at faults_in longest_at
returns-clause-parent c = refl

pub returns-clause-pivots : goal.returns-clause-pivots
unfolding faults_at faults_in longest_at
returns-clause-pivots c = refl

pub returns-clause-count : goal.returns-clause-count
unfolding faults_at faults_in longest_at
returns-clause-count c = refl

pub returns-clause-entries : goal.returns-clause-entries
unfolding faults_at faults_in longest_at
returns-clause-entries c = refl

pub returns-clause-holes : goal.returns-clause-holes
unfolding faults_at faults_in longest_at
returns-clause-holes c = refl

pub returns-clause-gaps : goal.returns-clause-gaps
unfolding faults_at faults_in longest_at
returns-clause-gaps c = refl

pub returns-clause-narrow : goal.returns-clause-narrow
unfolding faults_at faults_in longest_at
returns-clause-narrow c = refl

pub returns-clause-narrow_top : goal.returns-clause-narrow_top
unfolding faults_at faults_in longest_at
returns-clause-narrow_top c = refl

pub returns-clause-narrow_unused : goal.returns-clause-narrow_unused
unfolding faults_at faults_in longest_at
returns-clause-narrow_unused c = refl

pub returns-clause-narrow_leaves : goal.returns-clause-narrow_leaves
unfolding faults_at faults_in longest_at
returns-clause-narrow_leaves c = refl

pub returns-clause-narrow_count : goal.returns-clause-narrow_count
unfolding faults_at faults_in longest_at
returns-clause-narrow_count c = refl

pub returns-clause-narrow_gaps : goal.returns-clause-narrow_gaps
unfolding faults_at faults_in longest_at
returns-clause-narrow_gaps c = refl
