use Rattle.pw_store_texts.proofs.SeenLemmas.{made-text}
use Rattle.pw_store_texts.proofs.modules.shown_text.Goals as goal

pub returns-in-Ok-clause-text : goal.returns-in-Ok-clause-text
returns-in-Ok-clause-text c = made-text c.truncate.new.self.items c.in-Ok.text c.args.output c.in-Ok.is c.truncate.ensures.items
