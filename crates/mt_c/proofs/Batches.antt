-- A log that was played or judged.
use Rattle.mt_c.proofs.Prelude.{◌≡◌, ◌∙◌, ◌<◌, ◌≤◌, ◌++◌, ℕ, List, Ok, drop, length, subst, sym, Log, Transcript, log_of, IsRun, Verdict, Yes, No, AreLeastPoints, IsVerdict, count_of_calls, reads_are_points, IsNoRun, IsBufferShort, IsTextOfRun, IsVerified, WritesText}

pub writes : (rows : ℕ) (bytes before after text : List ℕ) (used : ℕ) → IsTextOfRun rows bytes text → used ≡ length text → length text ≤ length before
    → after ≡ text ++ drop (length text) before → WritesText rows bytes before after used
writes rows bytes before after text used run count room put = (text, run, count, room, put)

pub is_short : (rows : ℕ) (bytes before text : List ℕ) (used : ℕ) → IsTextOfRun rows bytes text → used ≡ length text → length before < length text → IsBufferShort rows bytes before used
is_short rows bytes before text used run count lacks = (text, run, count, lacks)

pub verified_so : (rows : ℕ) (bytes text : List ℕ) (log : Log) (verdict : Verdict) (points : List ℕ) (calls reads : ℕ) → log_of bytes ≡ Ok log → verdict ≡ Yes points
    → IsVerdict log rows text verdict → ((n : ℕ) (t : Transcript) → IsRun log n t → count_of_calls t ≡ calls) → reads ≡ length points → IsVerified rows bytes text calls reads
verified_so rows bytes text log verdict points calls reads found is judged told counted =
    let least : AreLeastPoints log rows text points = subst (IsVerdict log rows text) is judged in
    let t : Transcript = least.transcript in
    let run : IsRun log rows t = (least.told.steps, least.told.trees, least.told.run) in
    (log, t, found, run, least.printed, sym (told rows t run), counted ∙ sym (reads_are_points log rows t points least.told))

pub no_run_so : (rows : ℕ) (bytes text : List ℕ) (log : Log) (verdict : Verdict) → log_of bytes ≡ Ok log → verdict ≡ No → IsVerdict log rows text verdict → IsNoRun rows bytes text
no_run_so rows bytes text log verdict found is judged =
    let none : IsVerdict log rows text No = subst (IsVerdict log rows text) is judged in
    (log, found, λ tells. none tells.0 tells.2 tells.1)
