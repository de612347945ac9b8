use Rattle.nm_haggle.proofs.FirstOptions.{too_long, all_there}
use Rattle.nm_haggle.proofs.first_option.first_option.Goals as goal

pub returns-then-head-gt-MAX_OPTION_DATA : goal.returns-then-head-gt-MAX_OPTION_DATA
returns-then-head-gt-MAX_OPTION_DATA c =
    too_long c.args.text.now c.in-Ok.head c.in-Ok.ensures.ok c.in-Ok.ensures.fits c.if-head-gt-MAX_OPTION_DATA.true

pub returns-else-text-head : goal.returns-else-text-head
returns-else-text-head c =
    all_there c.args.text.now c.in-Ok.head c.in-Ok.ensures.ok c.in-Ok.ensures.fits c.if-head-gt-MAX_OPTION_DATA.false c.if-text-head.false
