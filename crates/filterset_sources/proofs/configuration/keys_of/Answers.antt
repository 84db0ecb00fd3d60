use Rattle.filterset_sources.proofs.ConfigurationLemmas.{keys-entries}
use Rattle.filterset_sources.proofs.configuration.keys_of.Goals as goal

pub loop-key-init : goal.loop-key-init
loop-key-init c =
    rw (c.in_ok-keys.ensures.items, c.into_iter-key-iterator.ensures.into_iter_gives, c.keys-key-items.ensures.rest)
    (keys-entries c.args.entries.now.entries)
