use Rattle.reg_http.proofs.reply.answer.built_reply.Goals as goal

pub returns-in-Receipt : goal.returns-in-Receipt
returns-in-Receipt c = rw c.in-Receipt.is c.receipt_reply.ensures

pub returns-in-Clean : goal.returns-in-Clean
returns-in-Clean c = rw c.in-Clean.is c.clean_reply.ensures

pub returns-in-Findings : goal.returns-in-Findings
returns-in-Findings c = rw c.in-Findings.is c.findings_reply.ensures

pub returns-in-Denied : goal.returns-in-Denied
returns-in-Denied c = rw c.in-Denied.is c.denied_reply.ensures

pub returns-in-Listing : goal.returns-in-Listing
returns-in-Listing c = rw (c.in-Listing.is, ← c.as_slice.ensures) c.listing_reply.ensures

pub returns-in-Text : goal.returns-in-Text
returns-in-Text c = rw (c.in-Text.is, ← c.as_slice-in-Text.ensures) c.text_reply.ensures

pub returns-in-Withdrawn : goal.returns-in-Withdrawn
returns-in-Withdrawn c = rw c.in-Withdrawn.is c.withdrawn_reply.ensures
