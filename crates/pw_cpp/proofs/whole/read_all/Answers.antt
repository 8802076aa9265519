use Rattle.std.proofs.Common.{◌∙◌, [], ap, length, refl, reverse, sym}
use Rattle.pw_cpp_directives.specs.Directives.{standing}
use Rattle.pw_cpp_sources.specs.Sources.{digits_of, files_of, names_of, source_of, spans_of, texts_of}
use Rattle.pw_cpp.proofs.Headers.{number-found}
use Rattle.pw_cpp.proofs.WholeFiles.{not-there, run-fault, run-read}
use Rattle.pw_cpp.proofs.whole.read_all.Goals as goal

pub returns-in_default : goal.returns-in_default
returns-in_default c = λ there.
    absurd (not-there c.args.files.now c.args.source.now.spans.items (spans_of (texts_of c.args.files.now)) c.args.name.now there.0 c.requires.spans (sym c.in_default.is ∙ c.file_named.ensures) there.1)

pub returns-in-Ok : goal.returns-in-Ok
returns-in-Ok c = λ there.
    run-read (record { alloc = c.args.alloc; source = c.as_slice.result; files = c.args.files; spans = c.as_slice-2.result; file = 0; standing = record { macros = c.new.result; sets = c.new-2.result; sections = c.new-3.result; nested = c.new-4.result; produced = 0 }; out = c.new-5.result; size = 0 })
    c.read_file.new.self c.read_file.ensures.keeps digits_of c.args.name.now c.in-Some.number
    (number-found c.args.files.now c.as_slice-2.result.now c.args.name.now c.in-Some.number (sym c.requires.count ∙ ap length (sym c.as_slice-2.ensures.value)) (sym c.in-Some.is ∙ c.file_named.ensures))
    (record {
      standing_is = ap (λ m. standing m [] 0) (sym c.new.ensures) ∙ ap (λ s. standing c.new.result (reverse s) 0) (sym c.new-3.ensures);
      nested_is = ap reverse (sym c.new-4.ensures);
      out_is = sym c.new-5.ensures.items;
      size_is = refl;
    })
    (source_of (texts_of c.args.files.now)) (spans_of (texts_of c.args.files.now)) (c.as_slice.ensures.value ∙ c.requires.source)
    (ap (files_of (names_of c.args.files.now)) c.as_slice-2.ensures.value ∙ c.requires.spans) c.in-Ok.field-0 c.in-Ok.ensures.reads

pub returns-in-Err : goal.returns-in-Err
returns-in-Err c = λ there.
    run-fault (record { alloc = c.args.alloc; source = c.as_slice.result; files = c.args.files; spans = c.as_slice-2.result; file = 0; standing = record { macros = c.new.result; sets = c.new-2.result; sections = c.new-3.result; nested = c.new-4.result; produced = 0 }; out = c.new-5.result; size = 0 })
    c.read_file.new.self c.read_file.ensures.keeps digits_of c.args.name.now c.in-Some.number
    (number-found c.args.files.now c.as_slice-2.result.now c.args.name.now c.in-Some.number (sym c.requires.count ∙ ap length (sym c.as_slice-2.ensures.value)) (sym c.in-Some.is ∙ c.file_named.ensures))
    (record {
      standing_is = ap (λ m. standing m [] 0) (sym c.new.ensures) ∙ ap (λ s. standing c.new.result (reverse s) 0) (sym c.new-3.ensures);
      nested_is = ap reverse (sym c.new-4.ensures);
      out_is = sym c.new-5.ensures.items;
      size_is = refl;
    })
    (source_of (texts_of c.args.files.now)) (spans_of (texts_of c.args.files.now)) (c.as_slice.ensures.value ∙ c.requires.source)
    (ap (files_of (names_of c.args.files.now)) c.as_slice-2.ensures.value ∙ c.requires.spans) c.in-Err.fault c.in-Err.ensures.reads
