use Rattle.std.proofs.Common.{◌≡◌, length, arith, ◌∙◌}
use Rattle.pw_store_modules.specs.Views.{source}
use Rattle.pw_store_texts.proofs.BytesLemmas.{alone_bytes, hidden_bytes}
use Rattle.pw_store_texts.proofs.bytes.bytes_alone.Goals as goal

pub returns-then-alone : goal.returns-then-alone
returns-then-alone c = λ files e.
    let size : c.len.result ≡ length c.args.one.now.text.items = omega arith in
    size ∙ alone_bytes files (source c.args.one.now) c.in_ok-alone.alone c.if-alone.true (c.in_ok-alone.ensures files e)

pub returns-else-alone : goal.returns-else-alone
returns-else-alone c = λ files e. hidden_bytes files (source c.args.one.now) c.in_ok-alone.alone c.if-alone.false (c.in_ok-alone.ensures files e)
