-- `text::parse` meets its contract: each space found splits a word off, and the last word has none.
use Rattle.words.proofs.Prelude.{sym, ◌∙◌}
use Rattle.text.specs.Parse.{parse_of}
use Rattle.text.proofs.ParseLaws.{words_none, words_more, rest, four}
use Rattle.text.proofs.parse.Goals as goal

pub returns-then-e-s : goal.returns-then-e-s
unfolding parse_of
returns-then-e-s c =
    let s = c.args.s.now in
    rw (words_none s (sym c.gap-e.ensures.value ∙ c.if-e-s.true)) c.bare.ensures

pub returns-then-f-rest : goal.returns-then-f-rest
unfolding parse_of
returns-then-f-rest c =
    let s = c.args.s.now in
    let e = c.gap-e.result in
    rw (
      words_more s e c.gap-e.ensures.value c.gap-e.ensures.prefix_len.0 c.if-e-s.false,
      words_none (rest s e) (sym c.gap-f.ensures.value ∙ c.if-f-rest.true),
    ) c.one.ensures

pub returns-then-gap-b : goal.returns-then-gap-b
unfolding parse_of
returns-then-gap-b c =
    let s = c.args.s.now in
    let e = c.gap-e.result in
    let f = c.gap-f.result in
    rw (words_more s e c.gap-e.ensures.value c.gap-e.ensures.prefix_len.0 c.if-e-s.false, words_more (rest s e) f c.gap-f.ensures.value c.gap-f.ensures.prefix_len.0 c.if-f-rest.false, words_none (rest (rest s e) f) (sym c.gap.ensures.value ∙ c.if-gap-b.true)) c.two.ensures

pub returns : goal.returns
unfolding parse_of
returns c =
    let s = c.args.s.now in
    let e = c.gap-e.result in
    let f = c.gap-f.result in
    rw (words_more s e c.gap-e.ensures.value c.gap-e.ensures.prefix_len.0 c.if-e-s.false, words_more (rest s e) f c.gap-f.ensures.value c.gap-f.ensures.prefix_len.0 c.if-f-rest.false, words_more (rest (rest s e) f) c.gap.result c.gap.ensures.value c.gap.ensures.prefix_len.0 c.if-gap-b.false) (four _ _ _ (rest (rest (rest s e) f) c.gap.result))
