mod HeadLaws
mod LocalLaws
mod PointLaws
