use Rattle.std.proofs.Common.{◌∙◌, ap, length, refl, rules, slice_get, sym}
use Rattle.std.proofs.lemmas.Option.{slice_get_read}
use Rattle.pw_cpp_sources.specs.Sources.{spans_of, texts_of}
use Rattle.pw_cpp.proofs.WholeFiles.{placed-answer}
use Rattle.pw_cpp.proofs.whole.placed.Goals as goal

pub returns : goal.returns
returns c = λ f e.
    placed-answer c.args.source.now.bytes.items c.args.files.now c.args.source.now.spans.items (spans_of (texts_of c.args.files.now)) c.requires.spans c.args.number c.index-files-number.result c.in-Some.span
    (slice_get_read c.args.files.now (length c.args.files.now) c.args.number c.index-files-number.result refl (search (rules, c.if-files-number.false)) c.index-files-number.is)
    (ap (λ s. slice_get s c.args.number) (sym c.as_slice.ensures.value) ∙ sym c.place_at.ensures ∙ c.in-Some.is)
    c.args.fault (record { kind = c.args.fault.kind; file = c.in_ok-file.file; line = c.line_at-line.result }) refl (c.in_ok-file.ensures ∙ ap (λ x. x.0) (sym c.index-files-number.is))
    (search (rules, c.line_at-line.ensures, c.bytes_before-text.ensures, c.text_from.ensures, c.as_slice-2.ensures.value, c.saturating_sub-size.ensures, c.saturating_sub.ensures)) f e
