-- The kinds of answers that actions give.
use Rattle.std.specs.Prelude.{ℕ, List, [], Some, None, false}
use Rattle.http_answer.specs.declared.answer.Answer.{Answer}
use Rattle.http_answer.specs.declared.answer.Kind.{Kind}
use Rattle.http_answer.specs.declared.answer.Kind.TheVariants as kind
use Rattle.json_forms.specs.ProblemDocument.{problem_document, status_of}
use Rattle.json_forms.specs.declared.problem_type.Problem.{Problem}
use Rattle.json_forms.specs.declared.problem_type.Problem.TheVariants as problem

-- a JSON document
abbrev pub with_document : List ℕ → Answer
with_document body =
    record { status = 200; kind = Some kind.Json; tag = None; moved = false; body = body }

-- a refusal, told by its problem document (RFC 7807)
abbrev pub with_problem : Problem → Answer
with_problem p = record {
  status = status_of p;
  kind = Some kind.Problem;
  tag = None;
  moved = false;
  body = problem_document p;
}

-- a target that names no action, or one that is not offered
abbrev pub unknown_action : Answer
unknown_action = with_problem problem.InvalidAction

-- the data of a zone, with their entity tag
abbrev pub with_data : Kind → List ℕ → List ℕ → Answer
with_data kind tag body = record {
  status = 200;
  kind = Some kind;
  tag = Some tag;
  moved = false;
  body = body;
}

-- the client holds the data of a zone that have this tag (RFC 9110, section 15.4.5)
abbrev pub not_modified : List ℕ → Answer
not_modified tag = record { status = 304; kind = None; tag = Some tag; moved = false; body = [] }
