use Rattle.std.proofs.lemmas.Result.{IfOk-weaker}
use Rattle.filterset_listing.specs.Overrides.{filter_of, given_of}
use Rattle.filterset_listing.proofs.GroupLemmas.{covers_alone}
use Rattle.filterset_listing.proofs.groups.ToldOverride.covers.Goals as goal

pub returns-in-None : goal.returns-in-None
returns-in-None c =
    let given = given_of c.args.self.now in
    IfOk-weaker c.picks_in.result _ _ (λ answer holds default may.
    let own = holds (filter_of given) default may.0 in
    let covers = covers_alone default c.args.query.now given in
    (λ picks. covers.1 (own.0 picks), λ it. own.1 (covers.0 it))) c.picks_in.ensures
