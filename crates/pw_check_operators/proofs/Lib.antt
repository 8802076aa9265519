mod CompoundLaws
mod PointLaws
