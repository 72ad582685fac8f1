use Rattle.std.proofs.Common.{◌++◌, inl, refl, sym, subst}
use Rattle.cert_text.specs.declared.kinds.Kind.TheVariants.{Circuit}
use Rattle.headline_laws.proofs.AsciiTexts.{ascii_on_page}
use Rattle.headline_laws.proofs.Circuits.{is_circuit}
use Rattle.headline_laws.proofs.Skolems.{page_names}
use Rattle.pec_front.specs.Boxes.{BoxesFit, IsLawfulDesign}
use Rattle.box_laws.proofs.BoxTexts.{boxes_spelled, design_taken}
use Rattle.box_laws.proofs.FittingContents.{fit, fit_there}
use Rattle.box_laws.proofs.LawfulDesigns.{is_design, page_design}
use Rattle.box_laws.proofs.laws.designs_are_on_the_page.Goals as goal

pub returns : goal.returns
returns c specification implementation file read d specified implemented reading lawful =
    let t = design_taken file.circuit read 1 d reading in
    let known = subst IsLawfulDesign t.same lawful in (
      page_design file.circuit read.file.circuit t.boxes,
      record {
        names = page_names specified.symbols;
        specified = ascii_on_page specification (Circuit 0 1) refl
            (inl (record {
              header = specified.header_line;
              others = specified.netlist_lines ++ (specified.symbol_lines ++ specified.comment_lines);
              rest = specified.header.tokens;
              lines = specified.lines;
              word = specified.header.word;
              behind = tt;
              place = refl;
              number = refl;
            }))
            file specified;
        implemented = boxes_spelled implementation read.file read.comment_line implemented t.boxes t.begins t.is t.stated;
        design = is_design file.circuit read.file.circuit t.boxes known
            (is_circuit file.circuit specified.lawful specified.acyclic specified.outputs_mean)
            (is_circuit read.file.circuit implemented.lawful implemented.acyclic implemented.outputs_mean);
        fit = λ value fits. fit file.circuit read.file.circuit t.boxes value known.is_design.outputs
            (subst (λ x. BoxesFit x value) t.same fits);
        fit_there = λ value fits. subst (λ x. BoxesFit x value) (sym t.same)
            (fit_there file.circuit read.file.circuit t.boxes value fits);
      },
    )
