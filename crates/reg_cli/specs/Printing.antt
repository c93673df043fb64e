-- What is printed of an answer of the desk, and the status of the run.
use Rattle.std.specs.Prelude.{◌≡◌, ℕ, ℤ, List, [], ◌∷◌, ◌++◌, codes}
use Rattle.std.specs.Fmt.{decimal}
use Rattle.reg_policy.specs.Days.{Writes}
use Rattle.ags_cli.specs.Report.{report_of}
use Rattle.ags_cli.specs.declared.report.Report.{Report}
use Rattle.reg_desk.specs.declared.answer.Answer.{Answer}
use Rattle.reg_desk.specs.declared.answer.Answer.TheVariants as answers
use Rattle.reg_desk.specs.declared.answer.Listed.{Listed}

-- a receipt: the number of the deposit, and the first day on which it is no longer under embargo
abbrev pub IsReceipt : ℕ → ℤ → List ℕ → Type 0
IsReceipt number embargo text =
    (day : List ℕ) × Writes day embargo × (text ≡ codes "receipt " ++ decimal number ++ codes " " ++ day ++ codes "\n")

-- a line of a listing, with the text of its embargo day
abbrev pub dated_line : Listed → List ℕ → List ℕ
dated_line listed day = decimal listed.number ++ codes " " ++ listed.firm ++ codes " " ++ day ++ codes "\n"

-- a line of a listing: number, firm and embargo day
abbrev pub IsListedLine : Listed → List ℕ → Type 0
IsListedLine listed line = (day : List ℕ) × Writes day listed.embargo × (line ≡ dated_line listed day)

-- a line for each deposit, in the order of the listing
pub data ListsAs : List Listed → List ℕ → Type 0 where
  empty : ListsAs [] []
  next : (more : List Listed) (text : List ℕ) (listed : Listed) (line : List ℕ) → ListsAs more text
      → IsListedLine listed line → ListsAs (more ++ listed ∷ []) (text ++ line)

-- the text of an answer
abbrev pub IsPrinted : Answer → List ℕ → Type 0
IsPrinted (answers.Receipt number embargo) text = IsReceipt number embargo text
IsPrinted answers.Clean text = text ≡ (report_of []).text
IsPrinted (answers.Findings found) text = text ≡ (report_of found).text
IsPrinted (answers.Listing listing) text = ListsAs listing text
IsPrinted (answers.Text extract) text = text ≡ extract
IsPrinted (answers.Withdrawn number) text = text ≡ codes "withdrawn " ++ decimal number ++ codes "\n"
IsPrinted (answers.Denied rule) text = text ≡ codes "denied " ++ decimal rule ++ codes "\n"
IsPrinted answers.Unknown text = text ≡ codes "unknown\n"
IsPrinted answers.TooLarge text = text ≡ codes "too large\n"
IsPrinted answers.Full text = text ≡ codes "full\n"
IsPrinted answers.NoMemory text = text ≡ codes "out of memory\n"
IsPrinted answers.StoreFailed text = text ≡ codes "store failed\n"

-- the status of the run
abbrev pub exit_status : Answer → ℕ
exit_status (answers.Receipt number embargo) = 0
exit_status answers.Clean = 0
exit_status (answers.Findings found) = (report_of found).status
exit_status (answers.Listing listing) = 0
exit_status (answers.Text extract) = 0
exit_status (answers.Withdrawn number) = 0
exit_status (answers.Denied rule) = 2
exit_status answers.Unknown = 3
exit_status answers.TooLarge = 4
exit_status answers.Full = 5
exit_status answers.NoMemory = 5
exit_status answers.StoreFailed = 5

-- the report on an answer
abbrev pub ReportsAnswer : Answer → Report → Type 0
ReportsAnswer answer report = IsPrinted answer report.text × (report.status ≡ exit_status answer)
