use Rattle.hpack_huffman.proofs.Texts.{grammar_read, read_grammar, eos_read, read_meets, read_refused, refused_text, refused_eos}
use Rattle.hpack_huffman.proofs.laws.reading_is_the_grammar.Goals as goal

pub returns-clause-read : goal.returns-clause-read
returns-clause-read c = grammar_read

pub returns-clause-spelled : goal.returns-clause-spelled
returns-clause-spelled c = read_grammar

pub returns-clause-eos_met : goal.returns-clause-eos_met
returns-clause-eos_met c = eos_read

pub returns-clause-eos_stands : goal.returns-clause-eos_stands
returns-clause-eos_stands c = read_meets

pub returns-clause-refused : goal.returns-clause-refused
returns-clause-refused c = read_refused

pub returns-clause-no_text : goal.returns-clause-no_text
returns-clause-no_text c = refused_text

pub returns-clause-no_eos : goal.returns-clause-no_eos
returns-clause-no_eos c = refused_eos
