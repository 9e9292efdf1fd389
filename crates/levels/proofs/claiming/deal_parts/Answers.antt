use Rattle.levels.proofs.Bounded.{fits_limits}
use Rattle.levels.proofs.claiming.deal_parts.Goals as goal

pub deal-requires-clause-fits : goal.deal-requires-clause-fits
deal-requires-clause-fits g c = fits_limits c.args.parts.now c.requires.dealable.limits c.requires.dealable.short
