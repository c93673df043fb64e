-- From what is reported to the answer of a run.
use Rattle.std.proofs.Common.{ap, length, ◌≡◌, ◌≤◌, ◌↔◌, ◌||◌, ℕ, Bool, true, false, IsTrue, inl, inr, ◌⊎◌, [], List, Option, None, Some, Ok, Err, IfSome, refl, sym, subst, ◌∙◌, arith, rules}
use Rattle.ags_cli.specs.declared.error.Fault.{Fault}
use Rattle.ags_cli.specs.declared.error.Fault.TheVariants.{TooLarge, NoMemory, Stream}
use Rattle.ags_rows.specs.declared.TheConstants.{LIMIT}
use Rattle.ags_rows.specs.declared.finding.Finding.{Finding}
use Rattle.ags_cli.specs.declared.report.Report.{Report}
use Rattle.ags_cli.specs.Answers.{Answers, reported, too_large, no_memory, answered, not_read, not_printed, not_said, AnswersOn, ReportsOn}
use Rattle.ags_cli.specs.Faults.{Tells, fault_text, fault_status, is_stream}
use Rattle.ags_cli.specs.Report.{report_of}
use Rattle.std.specs.Prelude.{Vec}
use Rattle.std.specs.Global.{Global}
use Rattle.ags_cli.specs.Reading.{ReadsFile}
use Rattle.ags_dict.specs.Entries.{Entries}
use Rattle.ags_check.specs.Findings.{Findings}
use Rattle.ags_cli.proofs.Taking.{appends_none}

-- a report is an answer
printed_answer : (entries : Entries) (bytes : List ℕ) (report : Report) → ReportsOn entries bytes (Ok report) → Answers entries bytes report.text [] report.status
printed_answer entries bytes report (few, (found, right, is)) = subst (λ r. Answers entries bytes r.text [] r.status) (sym is) (reported found few right)

-- where a report is printed, the outcome is the answer or the failure of the writer
pub report_answers : (entries : Entries) (known out out_after err : Option (List ℕ)) (report : Report) (in_failed before after err_failed : Bool) (status : ℕ)
    → in_failed ≡ false → before ≡ false → err_failed ≡ false
    → IfSome known (λ bytes. ReportsOn entries bytes (Ok report)) → Tells out out_after report.text before after report.status status
    → IfSome known (λ bytes. AnswersOn entries bytes out out_after err err in_failed after err_failed status)
report_answers entries None out out_after err report in_failed before after err_failed status ei eb ee about told = tt
report_answers entries (Some bytes) out out_after err report in_failed before after err_failed status ei eb ee about (inl (taken, kept, same)) =
    let whole = answered report.text [] report.status (printed_answer entries bytes report about) in
    (report.text, [], rw (ei, kept ∙ eb, ee, same) whole, taken, appends_none err)
report_answers entries (Some bytes) out out_after err report in_failed before after err_failed status ei eb ee about (inr (cut, failed, six)) =
    let answer = subst (λ text. Answers entries bytes text [] report.status) cut.parts (printed_answer entries bytes report about) in
    (cut.part, [], rw (ei, failed, ee, six) (not_printed cut.part cut.rest report.status answer), cut.taken, appends_none err)

-- a fault that is not of a stream is an answer
said_answer : (entries : Entries) (bytes : List ℕ) (fault : Fault) → is_stream fault ≡ false → ReportsOn entries bytes (Err fault) → Answers entries bytes [] (fault_text fault) (fault_status fault)
said_answer entries bytes TooLarge other about = too_large about
said_answer entries bytes NoMemory other about = no_memory
said_answer entries bytes Stream other about = absurd (search rules)
said_answer entries bytes fault other about = absurd about

-- where such a fault is reported, the outcome is the answer or the failure of the writer
other_answers : (entries : Entries) (bytes : List ℕ) (out err err_after : Option (List ℕ)) (fault : Fault) (in_failed out_failed before after : Bool) (status : ℕ)
    → is_stream fault ≡ false → in_failed ≡ is_stream fault → out_failed ≡ false → before ≡ false
    → ReportsOn entries bytes (Err fault) → Tells err err_after (fault_text fault) before after (fault_status fault) status
    → AnswersOn entries bytes out out err err_after in_failed out_failed after status
other_answers entries bytes out err err_after fault in_failed out_failed before after status other ei eo eb about (inl (taken, kept, same)) =
    let whole = answered [] (fault_text fault) (fault_status fault) (said_answer entries bytes fault other about) in
    ([], fault_text fault, rw (ei ∙ other, eo, kept ∙ eb, same) whole, appends_none out, taken)
other_answers entries bytes out err err_after fault in_failed out_failed before after status other ei eo eb about (inr (cut, failed, six)) =
    let answer = subst (λ text. Answers entries bytes [] text (fault_status fault)) cut.parts (said_answer entries bytes fault other about) in
    ([], cut.part, rw (ei ∙ other, eo, failed, six) (not_said cut.part cut.rest (fault_status fault) answer), appends_none out, cut.taken)

-- where the reader failed, nothing is reported
stream_answers : (entries : Entries) (bytes : List ℕ) (out err err_after : Option (List ℕ)) (in_failed out_failed before after : Bool) (status : ℕ)
    → in_failed ≡ true → out_failed ≡ false → before ≡ false
    → Tells err err_after [] before after (fault_status Stream) status → AnswersOn entries bytes out out err err_after in_failed out_failed after status
stream_answers entries bytes out err err_after in_failed out_failed before after status ei eo eb (inl (taken, kept, same)) =
    ([], [], rw (ei, eo, kept ∙ eb, same) not_read, appends_none out, taken)
stream_answers entries bytes out err err_after in_failed out_failed before after status ei eo eb (inr (cut, failed, six)) = absurd (cut.some refl)

-- a fault is that of a stream, or another
pub stream_or_other : (fault : Fault) → (fault ≡ Stream) ⊎ (is_stream fault ≡ false)
stream_or_other Stream = inl refl
stream_or_other fault = inr refl

is_that_of_stream : (fault : Fault) → is_stream fault ≡ true → fault ≡ Stream
is_that_of_stream fault is = elim (stream_or_other fault) [
  | inl same ↦ same
  | inr other ↦ absurd (search (rules, is, other))
]

-- a fault that is not of a stream ends with 4 or 5
pub other_status : (fault : Fault) → is_stream fault ≡ false → fault_status fault ≤ 5
other_status Stream other = absurd (search rules)
other_status fault other = omega arith

-- where a fault is reported, the outcome is the answer or the failure of a stream
pub fault_answers : (entries : Entries) (known out err err_after : Option (List ℕ)) (fault : Fault) (in_failed out_failed before after : Bool) (status : ℕ)
    → in_failed ≡ is_stream fault → out_failed ≡ false → before ≡ false
    → IfSome known (λ bytes. ReportsOn entries bytes (Err fault)) → Tells err err_after (fault_text fault) before after (fault_status fault) status
    → IfSome known (λ bytes. AnswersOn entries bytes out out err err_after in_failed out_failed after status)
fault_answers entries None out err err_after fault in_failed out_failed before after status ei eo eb about told = tt
fault_answers entries (Some bytes) out err err_after fault in_failed out_failed before after status ei eo eb about told = elim (stream_or_other fault) [
  | inl is ↦ stream_answers entries bytes out err err_after in_failed out_failed before after status (ei ∙ ap is_stream is) eo eb
      (subst (λ f. Tells err err_after (fault_text f) before after (fault_status f) status) is told)
  | inr other ↦ other_answers entries bytes out err err_after fault in_failed out_failed before after status other ei eo eb about told
]

-- a run can be out of memory before anything is read
pub no_memory_on : (entries : Entries) (known : Option (List ℕ)) (fault : Fault) → fault ≡ NoMemory → IfSome known (λ bytes. ReportsOn entries bytes (Err fault))
no_memory_on entries None fault is = tt
no_memory_on entries (Some bytes) fault is = subst (λ f. ReportsOn entries bytes (Err f)) (sym is) tt

-- no stream failed, and the status is another
none_failed : (a b c : Bool) (ended : ℕ) → a ≡ false → b ≡ false → c ≡ false → ended ≤ 5 → (ended ≡ fault_status Stream) ↔ IsTrue (a || (b || c))
none_failed true b c ended ea eb ec few = absurd (search rules)
none_failed false true c ended ea eb ec few = absurd (search rules)
none_failed false false true ended ea eb ec few = absurd (search rules)
none_failed false false false ended ea eb ec few = (λ six. absurd (omega (arith, six, few)), λ failed. absurd (search rules))

-- a stream failed, and the status says so
one_failed : (a b c : Bool) (ended : ℕ) → IsTrue (a || (b || c)) → ended ≡ fault_status Stream → (ended ≡ fault_status Stream) ↔ IsTrue (a || (b || c))
one_failed a b c ended failed six = (λ _. failed, λ _. six)

or_second : (a b c : Bool) → b ≡ true → IsTrue (a || (b || c))
or_second true b c e = refl
or_second false true c e = refl
or_second false false c e = absurd (search rules)

or_third : (a b c : Bool) → c ≡ true → IsTrue (a || (b || c))
or_third true b c e = refl
or_third false true c e = refl
or_third false false c e = e

-- where a report is printed, the status is 6 exactly where a stream failed
pub report_fails : (out out_after : Option (List ℕ)) (text : List ℕ) (in_failed before after err_failed : Bool) (status ended : ℕ)
    → in_failed ≡ false → before ≡ false → err_failed ≡ false → status ≤ 1 → Tells out out_after text before after status ended
    → (ended ≡ fault_status Stream) ↔ IsTrue (in_failed || (after || err_failed))
report_fails out out_after text in_failed before after err_failed status ended ei eb ee few (inl (taken, kept, same)) =
    none_failed in_failed after err_failed ended ei (kept ∙ eb) ee (omega (arith, same, few))
report_fails out out_after text in_failed before after err_failed status ended ei eb ee few (inr (cut, failed, six)) =
    one_failed in_failed after err_failed ended (or_second in_failed after err_failed failed) six

-- where a fault is reported, the status is 6 exactly where a stream failed
pub fault_fails : (err err_after : Option (List ℕ)) (in_failed out_failed before after : Bool) (fault : Fault) (ended : ℕ)
    → in_failed ≡ is_stream fault → out_failed ≡ false → before ≡ false → Tells err err_after (fault_text fault) before after (fault_status fault) ended
    → (ended ≡ fault_status Stream) ↔ IsTrue (in_failed || (out_failed || after))
fault_fails err err_after in_failed out_failed before after fault ended ei eo eb (inr (cut, failed, six)) =
    one_failed in_failed out_failed after ended (or_third in_failed out_failed after failed) six
fault_fails err err_after true out_failed before after fault ended ei eo eb (inl (taken, kept, same)) =
    one_failed true out_failed after ended refl (same ∙ ap fault_status (is_that_of_stream fault (sym ei)))
fault_fails err err_after false out_failed before after fault ended ei eo eb (inl (taken, kept, same)) =
    none_failed false out_failed after ended refl eo (kept ∙ eb) (subst (λ n. n ≤ 5) (sym same) (other_status fault (sym ei)))

-- a report on what was found in all bytes of the stream
pub reports : (entries : Entries) (known : Option (List ℕ)) (bytes : Vec ℕ Global) (read : List ℕ) (found : List Finding) (report : Report)
    → IfSome known (λ all. ReadsFile all (Ok bytes)) → length bytes.items ≤ LIMIT → read ≡ bytes.items → Findings entries read found
    → report ≡ report_of found → IfSome known (λ all. ReportsOn entries all (Ok report))
reports entries None bytes read found report is few lent right made = tt
reports entries (Some all) bytes read found report is few lent right made =
    (subst (λ b. length b ≤ LIMIT) is few, (found, subst (λ b. Findings entries b found) (lent ∙ is) right, made))
