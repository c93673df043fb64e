use Rattle.std.proofs.Common.{arith}
use Rattle.matchit.specs.Router.{RouteOf}
use Rattle.reg_http.specs.declared.request.route.Page.{Page}
use Rattle.reg_http.proofs.RouteWalk.{found_is, params_are_text}
use Rattle.reg_http.proofs.request.route.found_in.Goals as goal

pub part-requires : goal.part-requires
part-requires c =
    let e = c.in-Ok.ensures in
    let found = rw c.requires at e.found in
    params_are_text _ c.in-Ok.found.params _ c.utf8.path (λ k. omega (arith, c.type_inv.path k)) e.path found

pub part-requires-in-Ok : goal.part-requires-in-Ok
part-requires-in-Ok c =
    let e = c.in-Ok.ensures in
    let found = rw c.requires at e.found in
    params_are_text _ c.in-Ok.found.params _ c.utf8.path (λ k. omega (arith, c.type_inv.path k)) e.path found

pub returns-in-Ok : goal.returns-in-Ok
returns-in-Ok c =
    let p = c.in-Ok.found.params in
    let r : RouteOf Page = record { pattern = p.pattern.now; text = p.text.now; names = p.names.now; value = c.in-Ok.found.value.now } in
    let e = c.in-Ok.ensures in
    let project = rw e.path at c.part.ensures in
    let number = rw e.path at c.part-in-Ok.ensures in
    let found = rw c.requires at e.found in
    found_is c.args.path.now r _ _ found project number
