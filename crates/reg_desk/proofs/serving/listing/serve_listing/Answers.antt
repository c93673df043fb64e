use Rattle.std.proofs.Common.{ap, Err}
use Rattle.reg_desk.proofs.Listings.{listing_asks, listing_replies}
use Rattle.reg_desk.proofs.Serves.{refused_serves}
use Rattle.reg_desk.proofs.serving.listing.serve_listing.Goals as goal

pub returns-in-Err : goal.returns-in-Err
returns-in-Err g c = λ number permit.
    rw c.refused.ensures
    (refused_serves g.K.Keep c.args.policy.now _ c.args.keep.now c.lines_of.new.keep c.in-Err.error c.in-Err.ensures.reads (λ e. c.in-Err.ensures.refused (ap (λ x. Err x) e))
    (listing_asks g.K.Keep c.args.policy.now c.args.caller.now c.args.project.now c.args.day c.args.keep.now number permit))

pub returns-in-Ok : goal.returns-in-Ok
returns-in-Ok g c = λ number permit.
    rw c.from_vec.ensures
    (listing_replies g.K.Keep c.args.policy.now c.args.caller.now c.args.project.now c.args.day c.args.keep.now c.lines_of.new.keep number c.in-Ok.lines.items permit c.in-Ok.ensures.reads c.in-Ok.ensures.listed)
