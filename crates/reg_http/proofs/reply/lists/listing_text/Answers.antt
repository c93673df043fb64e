use Rattle.std.proofs.Common.{rules, codes, []}
use Rattle.reg_http.proofs.SendingLemmas.{begun, deposits_begin, deposits_more, listing_text_is}
use Rattle.reg_http.proofs.reply.lists.listing_text.Goals as goal

pub loop-place-init : goal.loop-place-init
loop-place-init c = ([], tt, begun (codes "deposits") _ _ _ c.in_ok-out.ensures.items c.in_ok-extend_from_slice.ensures.items deposits_begin)

pub loop-place-preserved : goal.loop-place-preserved
loop-place-preserved c = deposits_more c.args.listing.now c.loop-place.place _ _ _ _ c.loop-place-test.true c.index-listing-place.is c.loop-place.invariant c.in_ok-write_comma.ensures c.in_ok-write_listed.ensures

pub returns : goal.returns
returns c = listing_text_is c.args.listing.now c.loop-place.place _ _ (search rules) c.loop-place.invariant c.in_ok-extend_from_slice-2.ensures.items
